pub mod Digits
pub mod Fixeds
pub mod OneSymbol
pub mod OneText
pub mod Walk
