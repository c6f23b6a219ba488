pub mod Reader
pub mod Telling
