pub mod Records
pub mod Halts
