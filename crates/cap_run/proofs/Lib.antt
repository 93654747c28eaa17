pub mod TruePlans
pub mod RunLaws
pub mod Puts
pub mod Ones
