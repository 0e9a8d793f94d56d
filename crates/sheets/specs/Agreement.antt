-- What equal sums tell of two sheets, however they were read.
use Rattle.std.specs.Prelude.{◌≡◌, ℕ, ◌≤◌, List, [], map, length}
use Rattle.algebra.specs.Polynomial.{Each, Apart}
use Rattle.numbers.specs.Systems.{Sys}
use Rattle.reading.specs.Sheet.{sum_of, after}
use Rattle.reading.specs.declared.calls.Call.{Call}

-- a point at which two sheets were read, and the calls by which each of them was read there
pub record Visit (s : Sys) : Type 0 where
  pub point : s.Elem
  pub left : List Call
  pub right : List Call

-- the sum at x that is shown after these calls from a sheet without entries
abbrev pub shown : (s : Sys) → s.Elem → List Call → s.Elem
shown s x calls = sum_of s x (after s [] calls)

-- At this point the calls on the left have read the sheet L, those on the right the sheet M, and both show the same sum.
pub record SameSum (s : Sys) (L M : List ℕ) (v : Visit s) : Type 0 where
  pub left : after s [] v.left ≡ L
  pub right : after s [] v.right ≡ M
  pub sums : shown s v.point v.left ≡ shown s v.point v.right

-- Two sheets of n entries that were read at n points (or more), by whatever calls at each of them, and that show the same sum at every one, are equal entry
-- for entry, if any two of the points differ by a unit.
abbrev pub Agreement : Sys → Type 0
Agreement s =
    (L M : List ℕ) (visits : List (Visit s)) → length L ≡ length M → length L ≤ length visits → Apart s.ops (map (λ v. v.point) visits)
    → Each (SameSum s L M) visits → L ≡ M
