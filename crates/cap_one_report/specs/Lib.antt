pub mod Sizes
pub mod InTurn
pub mod Laws
