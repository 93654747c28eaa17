pub mod Numbers
pub mod Coefficients
