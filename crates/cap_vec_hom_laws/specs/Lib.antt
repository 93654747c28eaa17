pub mod Homs
