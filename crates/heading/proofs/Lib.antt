pub mod Lengths
pub mod Faults
