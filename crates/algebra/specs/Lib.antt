pub mod Ring
pub mod Units
pub mod Polynomial
pub mod Expr
