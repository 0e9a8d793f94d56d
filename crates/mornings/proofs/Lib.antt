pub mod Reasons
pub mod Stopped
pub mod Texts
