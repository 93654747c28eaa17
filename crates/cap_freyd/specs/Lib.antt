pub mod Sizes
pub mod Morphisms
