pub mod Agreement
pub mod Runs
pub mod Comparisons
