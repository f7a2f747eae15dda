pub mod Axis
pub mod Bounds
