pub mod Letters
pub mod Form
pub mod Session
