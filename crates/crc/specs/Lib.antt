pub mod Register
pub mod Division
pub mod Parts
pub mod Tables
pub mod Vectors
