-- Lists that are to be points: elements with an inverse.
use Rattle.std.specs.Prelude.{◌≡◌, ℕ, ◌⊎◌, List, [], ◌∷◌, Result, MatchResult}
use Rattle.algebra.specs.Units as U
use Rattle.algebra.specs.Units.{IsUnit}
use Rattle.numbers.specs.Lists.{Refused}
use Rattle.numbers.specs.Systems.{Sys}
use Rattle.numbers.specs.declared.refusal.Refusal.{Refusal}
use Rattle.numbers.specs.declared.refusal.Refusal.TheVariants.{NoInverse}

-- the list means an element of the system that has an inverse
abbrev pub IsPoint : Sys → List ℕ → Type 0
IsPoint s l = (x : s.Elem) × (s.list x ≡ l) × IsUnit s.ops x

-- the list is refused: it means no element, or else one that has no inverse
abbrev pub NotPoint : Sys → List ℕ → Refusal → Type 0
NotPoint s l q = Refused s (l ∷ []) q ⊎ ((x : s.Elem) × (s.list x ≡ l) × U.NoInverse s.ops x × (q ≡ NoInverse))

-- the result tells whether the list is a point of the system, and else how it is refused
abbrev pub Tells : {A : Type 0} → Sys → List ℕ → Result A Refusal → Type 0
Tells s l r = MatchResult r (λ _. IsPoint s l) (NotPoint s l)
