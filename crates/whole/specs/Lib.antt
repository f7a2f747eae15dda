pub mod Numbers
pub mod Signed
pub mod Truth
pub mod Floor
pub mod Wrapping
pub mod Root
pub mod Interval
pub mod Lists
