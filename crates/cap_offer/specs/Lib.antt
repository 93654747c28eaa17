pub mod Labels
pub mod Members
pub mod Literals
pub mod Cells
pub mod Laws
