pub mod Decision
pub mod Services
