pub mod Keeping
pub mod Covering
pub mod Widening
pub mod Unused
pub mod Any
