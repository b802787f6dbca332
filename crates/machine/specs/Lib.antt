pub mod Run
pub mod State
