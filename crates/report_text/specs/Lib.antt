pub mod Text
pub mod Digits
pub mod Putting
pub mod PuttingLaws
