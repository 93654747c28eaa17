pub mod Growth
pub mod Terms
pub mod Steps
