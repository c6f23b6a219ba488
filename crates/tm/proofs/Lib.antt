pub mod Frame
pub mod Frames
pub mod Octets
