pub mod Places
pub mod Samples
pub mod Tallies
pub mod Told
