pub mod Asks
pub mod Examples
pub mod Offers
pub mod PartByPart
pub mod Texts
