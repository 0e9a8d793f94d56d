pub mod Rowwise
pub mod System8
