pub mod Shapes
pub mod Steps
pub mod Asked
pub mod Alike
pub mod Bounds
pub mod Reach
