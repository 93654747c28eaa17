pub mod Calculus
pub mod Differences
pub mod Opposite
pub mod Textbook
pub mod Congruent
pub mod Unique
pub mod Isos
pub mod Factor
pub mod Blocks
pub mod Split
pub mod Systems
pub mod Sizes
pub mod Tables
mod Worked
