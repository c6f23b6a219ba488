pub mod Fronts
pub mod Words
pub mod Texts
