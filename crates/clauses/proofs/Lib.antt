pub mod Firsts
pub mod Steps
pub mod Soundness
pub mod Sharing
