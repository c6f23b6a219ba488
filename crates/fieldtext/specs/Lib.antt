pub mod Fields
pub mod Examples
