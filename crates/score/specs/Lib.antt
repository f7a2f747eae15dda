pub mod Diagonal
pub mod Score
pub mod Bounds
pub mod Examples
