pub mod Languages
pub mod Steps
pub mod Faults
pub mod Reading
pub mod Example
pub mod Lines
