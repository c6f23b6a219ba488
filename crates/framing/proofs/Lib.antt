pub mod Reports
pub mod Sources
pub mod Frames
pub mod Storing
pub mod Telling
pub mod Reading
