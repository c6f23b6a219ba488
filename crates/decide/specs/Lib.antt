pub mod Table
pub mod Octets
