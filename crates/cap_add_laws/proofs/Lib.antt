pub mod Sums
pub mod Entries
pub mod Linear
pub mod DirectSum
pub mod Joined
pub mod Structure
pub mod Worked
