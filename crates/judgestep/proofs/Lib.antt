pub mod Judging
pub mod Lengths
