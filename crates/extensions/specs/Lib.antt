pub mod Tuples
pub mod Schoolbook
pub mod Extensions
pub mod Conjugates
pub mod Classes
pub mod Layers
