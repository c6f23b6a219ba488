pub mod Between
pub mod Laid
pub mod Words
pub mod Octets
