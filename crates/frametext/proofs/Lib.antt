pub mod Frames
pub mod Lengths
