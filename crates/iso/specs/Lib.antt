pub mod Checksum
pub mod Closing
pub mod Vectors
