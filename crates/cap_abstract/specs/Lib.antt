pub mod Additions
pub mod Biproducts
pub mod Squares
pub mod Cancelling
pub mod Images
pub mod Exactness
