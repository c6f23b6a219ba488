pub mod Reading
pub mod Decimals
pub mod Round
