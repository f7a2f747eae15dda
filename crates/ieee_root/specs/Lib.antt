pub mod SquareRoot
pub mod Fractions
pub mod WholePart
pub mod Nearest
pub mod RustRoot
pub mod RustDiagonal
