pub mod FirstUnknown
pub mod Images
