pub mod Rows
pub mod Readings
pub mod Table
