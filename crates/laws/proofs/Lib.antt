pub mod Tests
pub mod Order
pub mod Each
pub mod First
pub mod Fold
pub mod Lists
