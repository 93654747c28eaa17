pub mod Literals
pub mod Combinations
pub mod Laws
