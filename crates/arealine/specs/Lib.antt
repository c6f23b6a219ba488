pub mod Area
pub mod Examples
