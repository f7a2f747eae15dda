pub mod Refusals
pub mod Planned
pub mod Accepted
pub mod Table
pub mod Outcome
