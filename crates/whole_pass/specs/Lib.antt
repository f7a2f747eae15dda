pub mod Pass
pub mod Lists
pub mod Evaluates
pub mod Done
pub mod Finishes
pub mod AfterPlanning
pub mod ThreeCalls
pub mod Searched
