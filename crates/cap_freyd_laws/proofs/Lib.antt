pub mod Linear
pub mod Bridge
pub mod Kernel
pub mod Cokernel
pub mod Exact
pub mod Sums
pub mod Abelian
pub mod Systems
pub mod Lifts
pub mod Images
mod Worked
