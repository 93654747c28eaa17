pub mod Numbers
pub mod LinesWritten
pub mod SpelledAgain
pub mod ReadAgain
pub mod Lengths
pub mod LineNumbers
pub mod Planned
pub mod Said
mod Examples
