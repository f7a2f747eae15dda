pub mod Rows
pub mod Refusals
pub mod Levels
pub mod Absences
pub mod Counts
pub mod Table
