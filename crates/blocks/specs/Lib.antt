pub mod Blocks
pub mod Form
pub mod Examples
