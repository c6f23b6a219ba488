pub mod Clauses
pub mod Examples
