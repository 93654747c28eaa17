pub mod Data
pub mod Numbers
pub mod Values
pub mod Lines
pub mod Text
pub mod Kept
