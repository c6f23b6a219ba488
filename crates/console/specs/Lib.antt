pub mod Marks
pub mod Reads
