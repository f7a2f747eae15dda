pub mod Levels
pub mod Asked
pub mod Sizes
pub mod Counted
pub mod Areas
pub mod Apart
pub mod Sampled
