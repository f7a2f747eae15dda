pub mod Distance
pub mod Examples
pub mod Laws
pub mod Hadamard
pub mod Sums
pub mod Fours
pub mod Parts
pub mod Steps
