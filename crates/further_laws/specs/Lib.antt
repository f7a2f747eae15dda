pub mod Line
pub mod Parts
pub mod Grids
pub mod Answers
pub mod Head
