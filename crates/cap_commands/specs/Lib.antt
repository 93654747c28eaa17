pub mod Kinds
pub mod Agreement
pub mod Seats
pub mod Doing
pub mod Running
