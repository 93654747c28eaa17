pub mod Systems
pub mod Answers
pub mod Sums
pub mod WeakKernels
pub mod Laws
