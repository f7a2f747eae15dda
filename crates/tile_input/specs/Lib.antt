pub mod Input
pub mod Parts
pub mod Scanned
pub mod Given
pub mod Examples
pub mod ReadBack
