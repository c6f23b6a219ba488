pub mod Rows
pub mod Telling
pub mod Examples
