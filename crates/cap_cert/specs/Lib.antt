pub mod Lines
pub mod Texts
pub mod Reading
pub mod Machine
pub mod Drafts
pub mod Refusals
