mod Diagonals
mod Faults
mod Kernels
mod RowBuffers
mod LiftSizes
pub mod PullbackLaws
mod HomCells
mod Solutions
