pub mod Refusals
pub mod Soundness
pub mod Sums
pub mod Windows
