pub mod Windows
pub mod Places
pub mod Sources
pub mod ReadBack
pub mod NeverWide
