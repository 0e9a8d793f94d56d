pub mod Singles
pub mod Remainders
pub mod Divisors
pub mod Held
