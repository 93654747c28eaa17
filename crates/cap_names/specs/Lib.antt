pub mod Laws
pub mod Operations
pub mod Places
pub mod Reasons
pub mod Tokens
pub mod Words
