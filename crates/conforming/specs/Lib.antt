pub mod Groups
pub mod Conforms
pub mod Findings
pub mod Verdict
pub mod Permitted
pub mod Alike
