pub mod Refusals
pub mod Numbers
pub mod Asked
pub mod Accepted
pub mod Given
pub mod Table
