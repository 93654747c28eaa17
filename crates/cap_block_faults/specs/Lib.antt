pub mod Marks
pub mod Names
pub mod Blocks
pub mod Literals
