pub mod Grid
pub mod Buffer
pub mod Flat
pub mod Reduced
pub mod Kernel
pub mod Summands
pub mod Made
