pub mod Books
pub mod Hands
pub mod Woven
pub mod Desks
