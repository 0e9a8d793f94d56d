pub mod Octuples
