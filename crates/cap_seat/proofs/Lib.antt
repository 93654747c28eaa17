pub mod TheRules
pub mod Among
pub mod Chunks
pub mod Narrow
pub mod Holding
pub mod Answering
pub mod GoingOn
pub mod Clauses
mod Examples
