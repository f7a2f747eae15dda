pub mod PlanFile
pub mod Served
pub mod Counting
pub mod BadRecords
pub mod Alike
pub mod Examples
