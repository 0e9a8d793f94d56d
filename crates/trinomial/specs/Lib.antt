pub mod Reduce
pub mod Rows
