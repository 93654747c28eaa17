pub mod Listed
pub mod ClassRows
pub mod Made
pub mod FewPaths
pub mod Tabled
