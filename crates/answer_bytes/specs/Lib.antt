pub mod Word
pub mod WordLaws
pub mod Slots
pub mod BlockCost
pub mod BlockCostLaws
