pub mod Lambda
pub mod Packing
pub mod Unpacking
pub mod Alike
pub mod RoundTrip
pub mod Examples
