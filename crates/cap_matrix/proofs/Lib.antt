pub mod Sums
pub mod Rows
pub mod Flat
pub mod Writes
pub mod Entries
pub mod Buffers
pub mod Filled
pub mod Algebra
pub mod Transpose
pub mod Blocks
pub mod Summands
pub mod TwoSided
mod Examples
