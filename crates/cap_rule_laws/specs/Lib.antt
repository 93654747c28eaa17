pub mod Soundness
pub mod SoundnessFits
