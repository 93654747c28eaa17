pub mod Sizes
pub mod Answered
pub mod Factors
pub mod Blocks
pub mod Parts
