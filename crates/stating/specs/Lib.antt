pub mod Faults
pub mod Wrongs
pub mod Stating
pub mod Examples
