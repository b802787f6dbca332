pub mod Dates
pub mod FixedRows
pub mod Keeping
