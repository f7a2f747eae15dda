pub mod Report
pub mod Parts
pub mod Reported
pub mod Lengths
pub mod Examples
