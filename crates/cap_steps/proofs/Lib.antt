pub mod SlotsAt
