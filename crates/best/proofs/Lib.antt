pub mod VectorCosts
pub mod Kept
pub mod SearchedLaws
pub mod Zero
