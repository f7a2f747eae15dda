pub mod Absent
pub mod Rows
pub mod Counts
