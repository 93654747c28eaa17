pub mod State
pub mod Inside
pub mod Parts
pub mod Lookups
pub mod Tested
