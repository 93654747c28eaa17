pub mod Short
pub mod Splitting
pub mod Joining
pub mod Growing
