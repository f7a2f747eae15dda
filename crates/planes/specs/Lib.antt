pub mod Planes
pub mod Lying
