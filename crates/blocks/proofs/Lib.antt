pub mod Blocks
pub mod Walk
pub mod Behind
pub mod WellFormed
pub mod Octets
