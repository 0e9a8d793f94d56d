-- The residues modulo m: the numbers below m, added and multiplied modulo m.
use Rattle.std.specs.Prelude.{ℕ, ◌+◌, ◌-◌, ◌*◌, ◌%◌, ◌<◌, ◌≤◌, [], ◌∷◌}
use Rattle.std.proofs.Common.{mod-lt, arith}
use Rattle.algebra.specs.Ring.{Ops}
use Rattle.numbers.specs.Systems.{Sys}
use Rattle.bases.specs.Singles.{OneBelow}

-- the numbers below m
abbrev pub Res : ℕ → Type 0
Res m = (n : ℕ) × (n < m)

module _ (m : ℕ) (low : 2 ≤ m) where
  -- a remainder is below m
  pub res_below : (k : ℕ) → k % m < m
  res_below k = mod-lt k (omega arith)

  -- the remainder of k
  abbrev pub res : ℕ → Res m
  res k = (k % m, res_below k)

  -- sums, negatives and products are taken modulo m
  abbrev pub res_ops : Ops (Res m)
  res_ops = record { zero = res 0; one = res 1; add = λ x y. res (x.0 + y.0); neg = λ x. res (m - x.0); mul = λ x y. res (x.0 * y.0) }

  -- the number system: an element's list is the one number
  abbrev pub residues : Sys
  residues = record { Elem = Res m; ops = res_ops; list = λ x. x.0 ∷ []; size = 1; IsElement = OneBelow m; limit = m }
