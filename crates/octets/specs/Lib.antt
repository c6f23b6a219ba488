pub mod Numbers
pub mod Copy
