pub mod Certificates
pub mod Kept
pub mod Laws
pub mod Registrations
