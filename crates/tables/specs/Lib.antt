pub mod Asked
pub mod Fitting
pub mod Layout
pub mod Rows
pub mod State
pub mod Threads
