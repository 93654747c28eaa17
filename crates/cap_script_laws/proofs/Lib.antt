pub mod Once
pub mod TokenSymbols
pub mod Decided
