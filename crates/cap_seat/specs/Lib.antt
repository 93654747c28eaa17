pub mod Seats
pub mod Events
pub mod Onward
pub mod Memories
