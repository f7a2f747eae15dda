pub mod Finished
pub mod Outcome
pub mod Fives
pub mod Casts
mod Folds
