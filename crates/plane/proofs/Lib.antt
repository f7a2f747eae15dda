pub mod Machine
pub mod InPlace
