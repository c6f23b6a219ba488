pub mod Packets
pub mod Cutting
pub mod Lines
