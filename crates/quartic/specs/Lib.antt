pub mod Quadruples
