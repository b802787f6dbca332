pub mod Trim
