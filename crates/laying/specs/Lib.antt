pub mod Reports
pub mod Lays
