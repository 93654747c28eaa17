pub mod Named
pub mod Histories
