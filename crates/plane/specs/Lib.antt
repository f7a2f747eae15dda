pub mod Places
pub mod Samples
pub mod Offsets
pub mod Reads
pub mod Averages
pub mod Examples
