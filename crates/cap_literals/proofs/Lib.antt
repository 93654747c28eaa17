pub mod Symbols
pub mod Parts
pub mod Sums
pub mod Values
pub mod Laws
