pub mod Table
pub mod Verdict
