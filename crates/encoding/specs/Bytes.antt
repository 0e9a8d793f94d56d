-- Elements as lists of bytes: four bytes for each number of an element's list, least byte first.
use Rattle.std.specs.Prelude.{◌≡◌, ℕ, ◌*◌, ◌^◌, ◌<◌, ◌⊎◌, List, [], ◌∷◌, ◌++◌, length}
use Rattle.std.specs.Int.{w32, to_le_bytes, from_le_bytes}
use Rattle.algebra.specs.Polynomial.{Each}
use Rattle.numbers.specs.Systems.{Sys}
use Rattle.numbers.specs.declared.refusal.Refusal.{Refusal}
use Rattle.numbers.specs.declared.refusal.Refusal.TheVariants.{CutList, OverLimit}

-- each number as four bytes, least first
abbrev pub bytes_of : List ℕ → List ℕ
bytes_of [] = []
bytes_of (n ∷ l) = to_le_bytes w32 n ++ bytes_of l

-- the numbers that are four bytes each, least first; what is left at the end is dropped
abbrev pub numbers_of : List ℕ → List ℕ
numbers_of (a ∷ b ∷ c ∷ d ∷ l) = from_le_bytes w32 (a ∷ b ∷ c ∷ d ∷ []) ∷ numbers_of l
numbers_of l = []

-- the bytes of an element
abbrev pub encoding : (s : Sys) → s.Elem → List ℕ
encoding s x = bytes_of (s.list x)

-- four bytes hold each number of each element
abbrev pub Narrow : Sys → Type 0
Narrow s = (x : s.Elem) → Each (λ n. n < 2 ^ 32) (s.list x)

-- the list is as long as the encodings of elements are
abbrev pub WholeLength : Sys → List ℕ → Type 0
WholeLength s bytes = length bytes ≡ 4 * s.size

-- The refusal of bytes that encode no element: of a wrong length first, and then of a number that is too large.
abbrev pub RefusedBytes : Sys → List ℕ → Refusal → Type 0
RefusedBytes s bytes e =
    ((WholeLength s bytes → ⊥) × (e ≡ CutList)) ⊎ (WholeLength s bytes × (s.IsElement (numbers_of bytes) → ⊥) × (e ≡ OverLimit))
