pub mod Rounding
pub mod Settings
