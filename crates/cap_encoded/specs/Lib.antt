pub mod OfClosures
pub mod ReadsClosures
pub mod OfFreyd
pub mod ReadsFreyd
