pub mod Walking
pub mod Loaded
pub mod Octets
