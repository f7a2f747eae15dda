pub mod Counted
pub mod RealMatch
pub mod Kept
pub mod Knowing
