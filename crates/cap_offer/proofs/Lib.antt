pub mod Offers
pub mod Cells
pub mod Literals
pub mod Known
