pub mod Given
pub mod Weights
pub mod Marked
pub mod Plain
pub mod Dimensions
pub mod Forms
pub mod Laws
