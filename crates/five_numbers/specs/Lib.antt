pub mod Five
pub mod Asked
pub mod Laws
pub mod Counted
