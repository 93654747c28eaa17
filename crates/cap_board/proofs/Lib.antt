pub mod Told
pub mod Traces
pub mod LoopSays
pub mod StepsSay
pub mod BodiesSay
pub mod CallsSay
pub mod Facts
