pub mod Places
pub mod Agreeing
