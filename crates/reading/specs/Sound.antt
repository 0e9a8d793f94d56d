-- The sheet that a reading holds, what is true of every reading, and what its calls leave of it.
use Rattle.std.specs.Prelude.{◌≡◌, ℕ, List, length, Some, None, Ok, Err, Result}
use Rattle.algebra.specs.Ring.{power}
use Rattle.algebra.specs.Units.{Inverts}
use Rattle.numbers.specs.Systems.{Sys}
use Rattle.numbers.specs.declared.refusal.Refusal.{Refusal}
use Rattle.reading.specs.Sheet.{sum_of, refusal, taken, Below}
use Rattle.reading.specs.declared.calls.Call.{Call}
use Rattle.reading.specs.declared.calls.Answer.{Answer}
use Rattle.reading.specs.declared.calls.Answer.TheVariants.{Count, Entry, Seen}
use Rattle.reading.specs.declared.states.Reading.{Reading}
use Rattle.reading.specs.declared.states.Figure.{Figure}

-- the sheet that a reading holds
abbrev pub sheet : {S : Type 0} {G : _} → Reading S G → List ℕ
sheet r = r.entries

-- The inverse is the element's, the sum is the sheet's, the power is the element to the count, and every entry is below the limit.
pub record Sound {S : Type 0} {G : _} (s : Sys) (mean : S → s.Elem) (r : Reading S G) : Type 0 where
  pub inverts : Inverts s.ops (mean r.point.element) (mean r.point.inverse)
  pub summed : mean r.sum ≡ sum_of s (mean r.point.element) (sheet r)
  pub raised : mean r.power ≡ power s.ops (mean r.point.element) (length (sheet r))
  pub below : Below s.limit (sheet r)

-- a later state of a reading is at the same point
pub record SamePoint {S : Type 0} {G : _} (before later : Reading S G) : Type 0 where
  pub element : later.point.element ≡ before.point.element
  pub inverse : later.point.inverse ≡ before.point.inverse

-- the sheet takes the call, and the reading then holds the list that is left
pub record Accepts {S : Type 0} {G : _} (s : Sys) (c : Call) (before later : Reading S G) : Type 0 where
  pub accepted : refusal s (sheet before) c ≡ None
  pub list : sheet later ≡ taken (sheet before) c

-- the sheet refuses the call with q, and nothing of the reading has changed
pub record Refuses {S : Type 0} {G : _} (s : Sys) (c : Call) (q : Refusal) (before later : Reading S G) : Type 0 where
  pub refused : refusal s (sheet before) c ≡ Some q
  pub unchanged : later ≡ before

-- a look and a refusal leave the reading as it was
abbrev pub Leaves : {S : Type 0} {G : _} → Result (Answer S) Refusal → Reading S G → Reading S G → Type 0
Leaves (Ok (Count n)) before later = Unit {0}
Leaves (Ok (Entry e)) before later = Unit {0}
Leaves (Ok (Seen n v)) before later = later ≡ before
Leaves (Err q) before later = later ≡ before

-- Two figures are alike: the elements are the same, the counts and the sums.
pub record Alike {S : Type 0} (s : Sys) (mean : S → s.Elem) (f g : Figure S) : Type 0 where
  pub elements : mean f.element ≡ mean g.element
  pub counts : f.count ≡ g.count
  pub sums : mean f.sum ≡ mean g.sum
