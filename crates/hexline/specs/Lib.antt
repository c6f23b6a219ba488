pub mod Line
pub mod Whole
pub mod Said
