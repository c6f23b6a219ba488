pub mod Polynomial
pub mod Places
pub mod Laws
pub mod Leaves
pub mod Division
pub mod Parts
