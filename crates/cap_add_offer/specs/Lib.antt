pub mod Calls
pub mod Offer
pub mod Members
pub mod Laws
pub mod Canonical
