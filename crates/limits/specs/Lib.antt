pub mod Limits
pub mod Sizes
pub mod Refusals
pub mod Refused
pub mod Ranges
pub mod Equal
