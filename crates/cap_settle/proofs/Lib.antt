pub mod Settling
pub mod Fitting
