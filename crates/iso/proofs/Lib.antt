pub mod Laws
pub mod Closing
