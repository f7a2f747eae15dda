pub mod Finish
pub mod Asked
pub mod Table
pub mod Written
pub mod Served
pub mod FifthIgnored
pub mod Examples
