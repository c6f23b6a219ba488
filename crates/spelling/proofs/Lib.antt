pub mod Spelled
pub mod Walking
