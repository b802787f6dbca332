pub mod FixedRow
pub mod Row
