pub mod Walk
pub mod Soundness
pub mod Finding
pub mod Octets
