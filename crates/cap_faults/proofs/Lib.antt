pub mod Operations
pub mod FirstOfBlock
pub mod Loops
mod Examples
