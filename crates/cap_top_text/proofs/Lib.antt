pub mod Joined
pub mod Steps
pub mod Counted
pub mod Named
pub mod Told
pub mod Commands
pub mod Runs
mod Examples
