pub mod Clausewords
pub mod Examples
