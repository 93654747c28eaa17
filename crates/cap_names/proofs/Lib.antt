pub mod BadBytes
pub mod Decided
pub mod Examples
pub mod OperationNames
pub mod Pieces
pub mod Slices
pub mod WordTexts
pub mod Written
