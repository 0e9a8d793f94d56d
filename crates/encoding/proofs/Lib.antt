pub mod Singles
pub mod Numbers
pub mod Parts
