pub mod Courses
pub mod Preludes
pub mod Sessions
pub mod Anything
pub mod Places
pub mod Jobs
pub mod Shares
pub mod Reports
