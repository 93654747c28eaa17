pub mod Finding
pub mod Next
pub mod FromHistory
pub mod Empty
pub mod Asked
