pub mod Status
pub mod Reports
pub mod Refusals
pub mod Judged
pub mod Run
pub mod Words
