pub mod Fronts
pub mod Names
pub mod SymbolTexts
pub mod Few
pub mod Weights
pub mod Stand
pub mod Accepted
