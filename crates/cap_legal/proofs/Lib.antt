pub mod Values
pub mod Steps
pub mod Histories
pub mod Longer
pub mod Asking
