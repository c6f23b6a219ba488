pub mod Place
pub mod Sound
pub mod Made
pub mod Examples
