pub mod Fermat
mod Barrett
pub mod Remainders
