pub mod Draining
pub mod Layering
