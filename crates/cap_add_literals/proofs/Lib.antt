pub mod EntryLiterals
pub mod Given
