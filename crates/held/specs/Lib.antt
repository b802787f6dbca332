pub mod Held
pub mod Queues
pub mod SoundLaw
pub mod StoreBuffer
