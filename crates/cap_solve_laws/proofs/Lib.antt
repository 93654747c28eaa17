pub mod Equations
pub mod Solver
pub mod Solutions
pub mod WeakKernels
pub mod Cokernels
pub mod Worked
