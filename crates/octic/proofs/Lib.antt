pub mod Coefficients
pub mod Tower
