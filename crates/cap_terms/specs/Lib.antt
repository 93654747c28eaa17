pub mod Checker
pub mod Ends
pub mod Nameable
pub mod Rules
pub mod Run
pub mod Typing
