pub mod Checked
pub mod Decided
pub mod Details
pub mod Numbered
