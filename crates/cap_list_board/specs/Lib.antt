pub mod Lists
pub mod Answers
pub mod Holds
pub mod Onward
pub mod Benches
