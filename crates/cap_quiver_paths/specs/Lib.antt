pub mod Data
pub mod Relations
pub mod Numbers
pub mod TermNumbers
pub mod Read
