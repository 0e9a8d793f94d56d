-- Two sheets L and M that are read at a list of points and compared by their figures.
use Rattle.std.specs.Prelude.{◌≡◌, ℕ, ◌≤◌, Bool, T, List, length}
use Rattle.algebra.specs.Polynomial.{Each}
use Rattle.algebra.specs.Units.{IsUnit}
use Rattle.numbers.specs.Systems.{Sys}
use Rattle.numbers.specs.declared.refusal.Refusal.{Refusal}
use Rattle.numbers.specs.declared.refusal.Refusal.TheVariants.{StrangeSystem, CutList, OverLimit, NoInverse, NoConjugates, FullSheet, EmptySheet, NoSuchPlace}
use Rattle.reading.specs.Sheet.{most, sum_of, Below}

-- each entry of both is below the limit
abbrev pub BothBelow : Sys → List ℕ → List ℕ → Type 0
BothBelow s L M = Below s.limit L × Below s.limit M

-- a sheet has room for the entries of either
abbrev pub BothFit : List ℕ → List ℕ → Type 0
BothFit L M = (length L ≤ most) × (length M ≤ most)

-- both can be read at each of the points
pub record Readable (s : Sys) (points : List s.Elem) (L M : List ℕ) : Type 0 where
  pub below : BothBelow s L M
  pub fit : BothFit L M
  pub units : Each (IsUnit s.ops) points

-- when each refusal is given: first of all if an entry is not below the limit, then if there are too many entries, then if a point has no inverse
abbrev pub Unreadable : (s : Sys) → List s.Elem → List ℕ → List ℕ → Refusal → Type 0
Unreadable s points L M OverLimit = BothBelow s L M → ⊥
Unreadable s points L M FullSheet = BothBelow s L M × (BothFit L M → ⊥)
Unreadable s points L M NoInverse = BothBelow s L M × BothFit L M × (Each (IsUnit s.ops) points → ⊥)
Unreadable s points L M StrangeSystem = ⊥
Unreadable s points L M CutList = ⊥
Unreadable s points L M NoConjugates = ⊥
Unreadable s points L M EmptySheet = ⊥
Unreadable s points L M NoSuchPlace = ⊥

-- their figures are alike at each of the points: the counts are equal, and the sums there
pub record SameFigures (s : Sys) (points : List s.Elem) (L M : List ℕ) : Type 0 where
  pub counts : length L ≡ length M
  pub sums : Each (λ x. sum_of s x L ≡ sum_of s x M) points

-- the answer is true exactly where this holds
abbrev pub Tells : Bool → Type 0 → Type 0
Tells b P = (T b → P) × (P → T b)
