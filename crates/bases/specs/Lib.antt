pub mod Bounds
pub mod Singles
pub mod Residues
pub mod Bits
pub mod BitsLemmas
pub mod ResiduesLemmas
