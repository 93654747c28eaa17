pub mod Cleared
pub mod Flat
pub mod Laws
pub mod NullTable
pub mod Answers
