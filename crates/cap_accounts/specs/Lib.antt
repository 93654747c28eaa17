pub mod Worlds
pub mod Commands
pub mod Accounts
pub mod Arguments
