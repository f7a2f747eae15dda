pub mod Tiles
pub mod Slices
pub mod SideBySide
pub mod Absolute
pub mod HadamardLaws
pub mod Butterflies
pub mod Laws
pub mod Views
