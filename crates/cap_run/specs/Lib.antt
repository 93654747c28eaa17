pub mod Plans
pub mod Runs
pub mod Puts
pub mod One
