pub mod Rising
pub mod Adding
pub mod Taking
pub mod Spooling
mod Examples
