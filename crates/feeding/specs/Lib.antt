pub mod Feed
pub mod Output
