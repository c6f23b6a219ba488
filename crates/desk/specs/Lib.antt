pub mod Place
pub mod Did
