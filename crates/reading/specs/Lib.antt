pub mod Sheet
pub mod Sound
pub mod Windows
