pub mod Outside
pub mod Found
