pub mod Values
pub mod Categories
pub mod Commands
pub mod Forms
pub mod Literals
pub mod Given
pub mod Laws
