pub mod Table
pub mod Numbers
pub mod Verdicts
