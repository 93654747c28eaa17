pub mod Refused
pub mod Recording
pub mod Does
pub mod Goes
