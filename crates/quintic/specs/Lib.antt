pub mod Quintuples
