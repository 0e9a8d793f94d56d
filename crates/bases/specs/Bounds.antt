-- The numbers that can be a modulus.
use Rattle.std.specs.Prelude.{ℕ, ◌^◌, ◌<◌, ◌≤◌}

-- m is from 2 to 2^31 − 1
pub record Bounds (m : ℕ) : Type 0 where
  pub low : 2 ≤ m
  pub high : m < 2 ^ 31
