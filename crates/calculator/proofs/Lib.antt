pub mod Reasons
pub mod Shown
