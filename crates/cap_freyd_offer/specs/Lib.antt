pub mod Offer
pub mod Members
pub mod Laws
pub mod Canonical
