pub mod Made
pub mod Session
pub mod Stages
