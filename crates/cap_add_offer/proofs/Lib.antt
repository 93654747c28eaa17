pub mod Canonical
pub mod Data
