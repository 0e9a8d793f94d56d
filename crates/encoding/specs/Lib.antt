pub mod Bytes
pub mod NarrowLemmas
