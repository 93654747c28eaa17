pub mod Plain
pub mod Productions
pub mod Elsewhere
