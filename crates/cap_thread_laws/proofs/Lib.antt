pub mod Counting
pub mod Sessions
pub mod Accounting
