pub mod Each
pub mod First
pub mod Fold
