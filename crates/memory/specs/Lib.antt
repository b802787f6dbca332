pub mod Calls
pub mod Checks
pub mod Fault
pub mod History
pub mod Landings
pub mod Meaning
pub mod Number
pub mod SharedCells
