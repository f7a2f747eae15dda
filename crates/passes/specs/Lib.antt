pub mod Fold
pub mod Asked
pub mod FoldLaws
