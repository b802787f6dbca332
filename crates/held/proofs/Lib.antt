pub mod HeldSound
pub mod Rows
