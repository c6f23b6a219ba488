pub mod Steps
pub mod Bound
pub mod Octets
pub mod Wrongs
