pub mod Forms
pub mod Sessions
