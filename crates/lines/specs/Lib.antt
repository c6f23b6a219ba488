pub mod Lines
pub mod Pieces
pub mod Cuts
pub mod Turn
pub mod Feed
pub mod Examples
