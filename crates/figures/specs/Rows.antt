-- Calls on elements that are given by their lists.
use Rattle.std.specs.Prelude.{◌≡◌, ℕ, List, [], length, Some, None, Option, ◌≢◌}
use Rattle.algebra.specs.Units.{Inverts, NoInverse}
use Rattle.numbers.specs.Systems.{Sys}
use Rattle.reading.specs.Sheet.{after, sum_of}
use Rattle.reading.specs.declared.calls.Call.{Call}

-- the answer means the product of the elements with these lists, of which there are none where nothing is answered
abbrev pub ProductOf : {V : Type 0} (s : Sys) → (V → s.Elem) → List ℕ → List ℕ → Option V → Type 0
ProductOf s mean l k (Some v) = (x y : s.Elem) → s.list x ≡ l → s.list y ≡ k → mean v ≡ s.ops.mul x y
ProductOf s mean l k None = (x y : s.Elem) → s.list x ≡ l → s.list y ≢ k

-- the answer means the inverse of the element with this list, which has none where nothing is answered
abbrev pub InverseOf : {V : Type 0} (s : Sys) → (V → s.Elem) → List ℕ → Option V → Type 0
InverseOf s mean l (Some v) = (x : s.Elem) → s.list x ≡ l → Inverts s.ops x (mean v)
InverseOf s mean l None = (x : s.Elem) → s.list x ≡ l → NoInverse s.ops x

-- an element is answered, and means this list
abbrev pub Shows : {V : Type 0} (s : Sys) → (V → s.Elem) → List ℕ → Option V → Type 0
Shows s mean l (Some v) = s.list (mean v) ≡ l
Shows s mean l None = ⊥

-- by the definitions: the product of the elements with the lists l and k has the list m
abbrev pub Product : Sys → List ℕ → List ℕ → List ℕ → Type 0
Product s l k m = (x y : s.Elem) → s.list x ≡ l → s.list y ≡ k → s.list (s.ops.mul x y) ≡ m

-- by the definitions: the element with the list l has the one with the list m for its inverse
abbrev pub Inverse : Sys → List ℕ → List ℕ → Type 0
Inverse s l m = (x y : s.Elem) → s.list x ≡ l → s.list y ≡ m → Inverts s.ops x y

-- by the definitions: the element with the list l has no inverse
abbrev pub Refused : Sys → List ℕ → Type 0
Refused s l = (x : s.Elem) → s.list x ≡ l → NoInverse s.ops x

-- by the definitions: the plain sheet has this count after the calls, and its sum at x has the list m
pub record Figure (s : Sys) (x : s.Elem) (calls : List Call) (n : ℕ) (m : List ℕ) : Type 0 where
  pub count : length (after s [] calls) ≡ n
  pub sum : s.list (sum_of s x (after s [] calls)) ≡ m
