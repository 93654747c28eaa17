pub mod InLists
pub mod Growing
pub mod Answering
pub mod Readied
