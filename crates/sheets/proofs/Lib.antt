pub mod Points
pub mod Sequences
pub mod Sheets
