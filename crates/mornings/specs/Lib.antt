pub mod Drafts
pub mod Draws
pub mod Lines
pub mod Names
pub mod Points
