pub mod Kinds
pub mod Source
pub mod Told
