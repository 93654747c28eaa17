pub mod FixedTexts
pub mod Good
pub mod Lines
pub mod Spaced
pub mod Whole
