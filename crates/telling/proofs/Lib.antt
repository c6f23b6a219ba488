pub mod Tables
pub mod Lengths
