pub mod Whole
pub mod Left
