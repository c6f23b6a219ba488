pub mod Steps
pub mod Whole
pub mod Printing
pub mod Changing
pub mod Packing
