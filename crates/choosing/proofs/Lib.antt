pub mod Shifted
pub mod Walking
