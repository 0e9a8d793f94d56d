-- What a whole reading answers and leaves, and when it is refused.
use Rattle.std.specs.Prelude.{◌≡◌, ℕ, List, [], map, length, Result}
use Rattle.algebra.specs.Ring.{Ops}
use Rattle.algebra.specs.Units as U
use Rattle.algebra.specs.Units.{Inverts}
use Rattle.numbers.specs.Systems.{Sys}
use Rattle.numbers.specs.declared.refusal.Refusal.{Refusal}
use Rattle.numbers.specs.declared.refusal.Refusal.TheVariants.{StrangeSystem, CutList, OverLimit, NoInverse, NoConjugates, FullSheet, EmptySheet, NoSuchPlace}
use Rattle.reading.specs.Sheet.{sum_of, after, answers, said}
use Rattle.reading.specs.declared.calls.Call.{Call}
use Rattle.reading.specs.declared.calls.Answer.{Answer}
use Rattle.reading.specs.declared.states.Figure.{Figure}

-- b is an inverse of a, and the only one
pub record OnlyInverse {A : Type 0} (o : Ops A) (a b : A) : Type 0 where
  pub inverts : Inverts o a b
  pub only : (c : A) → Inverts o a c → c ≡ b

-- After these calls from a sheet without entries, the answers are the plain sheet's, and the figure has the element with that sheet's count and sum there.
pub record AsPlainSheet {S : Type 0} (s : Sys) (mean : S → s.Elem) (x : S) (calls : List Call) (given : List (Result (Answer S) Refusal)) (f : Figure S) : Type 0 where
  pub answered : map (said mean) given ≡ answers s (mean x) [] calls
  pub element : f.element ≡ x
  pub count : f.count ≡ length (after s [] calls)
  pub sum : mean f.sum ≡ sum_of s (mean x) (after s [] calls)

-- When each refusal is given to a whole reading at x, for n calls with m places for their answers: first of all if these are not as many as the calls, and
-- then if no element times x is one.
abbrev pub Refused : (s : Sys) (x : s.Elem) (n m : ℕ) → Refusal → Type 0
Refused s x n m CutList = m ≡ n → ⊥
Refused s x n m NoInverse = (m ≡ n) × U.NoInverse s.ops x
Refused s x n m StrangeSystem = ⊥
Refused s x n m OverLimit = ⊥
Refused s x n m NoConjugates = ⊥
Refused s x n m FullSheet = ⊥
Refused s x n m EmptySheet = ⊥
Refused s x n m NoSuchPlace = ⊥
