pub mod Wider
