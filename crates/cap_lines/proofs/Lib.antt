pub mod Cuts
pub mod Placing
pub mod Kept
pub mod Trimmed
pub mod Runs
pub mod Exchange
pub mod Texts
