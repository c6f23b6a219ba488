pub mod Streaming
pub mod Lined
pub mod Alone
pub mod Units
