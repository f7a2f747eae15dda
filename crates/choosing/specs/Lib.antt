pub mod Choosing
pub mod Bounds
pub mod Fields
pub mod Tables
pub mod Answers
pub mod Entries
pub mod Examples
