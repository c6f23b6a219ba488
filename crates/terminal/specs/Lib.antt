pub mod Done
pub mod Outcome
pub mod Run
pub mod Act
