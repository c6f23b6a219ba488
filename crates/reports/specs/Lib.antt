pub mod Source
pub mod Examples
