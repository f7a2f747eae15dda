pub mod Vector
pub mod Counted
