-- The field of two elements: the truth values, with exclusive-or as the sum and conjunction as the product.
use Rattle.std.specs.Prelude.{ℕ, Bool, true, false, not, ◌&&◌, [], ◌∷◌}
use Rattle.algebra.specs.Ring.{Ops}
use Rattle.numbers.specs.Systems.{Sys}
use Rattle.bases.specs.Singles.{OneBelow}

-- one of the two holds, and not both
abbrev pub either_or : Bool → Bool → Bool
either_or true b = not b
either_or false b = b

-- each element is its own negative
abbrev pub bit_ops : Ops Bool
bit_ops = record { zero = false; one = true; add = either_or; neg = λ b. b; mul = ◌&&◌ }

-- the number that stands for an element
abbrev pub number : Bool → ℕ
number true = 1
number false = 0

-- the number system: an element's list is its number
abbrev pub bits : Sys
bits = record { Elem = Bool; ops = bit_ops; list = λ b. number b ∷ []; size = 1; IsElement = OneBelow 2; limit = 2 }
