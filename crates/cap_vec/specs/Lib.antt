pub mod Members
pub mod Sizes
pub mod Solved
pub mod Laws
pub mod Homs
