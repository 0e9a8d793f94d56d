pub mod Laws
pub mod Multiples
pub mod Solver
pub mod Powers
pub mod Units
pub mod Polynomials
pub mod Division
