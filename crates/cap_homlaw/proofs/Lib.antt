pub mod Rows
pub mod Images
pub mod TwoSided
pub mod Lists
pub mod Worked
