pub mod Legality
pub mod Weaving
mod Examples
pub mod Handing
