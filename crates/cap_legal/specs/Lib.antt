pub mod Legal
pub mod Good
pub mod Laws
