-- Lists of numbers that are to be elements: which are refused, and how.
use Rattle.std.specs.Prelude.{◌≡◌, ℕ, ◌⊎◌, List, length}
use Rattle.algebra.specs.Polynomial.{Each}
use Rattle.numbers.specs.Systems.{Sys}
use Rattle.numbers.specs.declared.refusal.Refusal.{Refusal}
use Rattle.numbers.specs.declared.refusal.Refusal.TheVariants.{CutList, OverLimit}

-- each list is as long as an element of the system
abbrev pub Sized : Sys → List (List ℕ) → Type 0
Sized s ls = Each (λ l. length l ≡ s.size) ls

-- each list is an element of the system
abbrev pub Elements : Sys → List (List ℕ) → Type 0
Elements s ls = Each s.IsElement ls

-- The refusal of lists that are not all elements: of a wrong length first, and then of a number that is too large.
abbrev pub Refused : Sys → List (List ℕ) → Refusal → Type 0
Refused s ls e = ((Sized s ls → ⊥) × (e ≡ CutList)) ⊎ (Sized s ls × (Elements s ls → ⊥) × (e ≡ OverLimit))
