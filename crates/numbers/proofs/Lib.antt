pub mod Sums
pub mod Exponents
mod Elementwise
