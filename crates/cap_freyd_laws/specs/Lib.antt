pub mod Freyd
pub mod Canonical
pub mod Laws
