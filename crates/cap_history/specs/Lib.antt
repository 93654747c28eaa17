pub mod Reading
pub mod Replies
pub mod May
pub mod Laws
