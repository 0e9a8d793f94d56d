-- The plain sheet: a list L of entries, what each call is answered from it, and what the call leaves of it.
use Rattle.std.specs.Prelude.{ℕ, ◌+◌, ◌<◌, Bool, true, false, List, [], ◌∷◌, ◌++◌, map, length, drop, Some, None, Option, Ok, Err, Result, nat_lt, slice_index, slice_set}
use Rattle.std.specs.Coded.{×_prop, Unit-prop, le_prop}
use Rattle.algebra.specs.Ring.{multiple}
use Rattle.algebra.specs.Polynomial.{value, Each}
use Rattle.numbers.specs.Systems.{Sys}
use Rattle.numbers.specs.declared.refusal.Refusal.{Refusal}
use Rattle.numbers.specs.declared.refusal.Refusal.TheVariants.{OverLimit, FullSheet, EmptySheet, NoSuchPlace}
use Rattle.reading.specs.declared.calls.Call.{Call}
use Rattle.reading.specs.declared.calls.Call.TheVariants.{Append, Drop, Replace, Look}
use Rattle.reading.specs.declared.calls.Answer.{Answer}
use Rattle.reading.specs.declared.calls.Answer.TheVariants.{Count, Entry, Seen}

-- the most entries that a sheet holds
abbrev pub most : ℕ
most = 512

-- The sum at x: the total of entry(L_i) × x^i over all places i, where entry(n) is n times one and x^0 is one.
abbrev pub sum_of : (s : Sys) → s.Elem → List ℕ → s.Elem
sum_of s x L = value s.ops x (map (multiple s.ops) L)

-- a refusal where the test fails, and otherwise what comes after it
abbrev pub unless : Bool → Refusal → Option Refusal → Option Refusal
unless true q later = later
unless false q later = Some q

-- the refusal of a call, if it is refused, the first test first
abbrev pub refusal : Sys → List ℕ → Call → Option Refusal
refusal s L (Append e) = unless (nat_lt e s.limit) OverLimit (unless (nat_lt (length L) most) FullSheet None)
refusal s L Drop = unless (nat_lt 0 (length L)) EmptySheet None
refusal s L (Replace i e) = unless (nat_lt e s.limit) OverLimit (unless (nat_lt i (length L)) NoSuchPlace None)
refusal s L Look = None

-- the list after a call that is not refused
abbrev pub taken : List ℕ → Call → List ℕ
taken L (Append e) = L ++ (e ∷ [])
taken L Drop = drop 1 L
taken L (Replace i e) = slice_set L i e
taken L Look = L

-- the answer to a call that is not refused, at the point x
abbrev pub reply : (s : Sys) → s.Elem → List ℕ → Call → Answer s.Elem
reply s x L (Append e) = Count (length L + 1)
reply s x L Drop = Entry (slice_index L 0)
reply s x L (Replace i e) = Entry (slice_index L i)
reply s x L Look = Seen (length L) (sum_of s x L)

-- the list after a call: a refusal leaves it
abbrev pub changed : Sys → List ℕ → Call → List ℕ
changed s L c = elim (refusal s L c) [ None ↦ taken L c | Some q ↦ L ]

-- the answer to a call, or its refusal
abbrev pub told : (s : Sys) → s.Elem → List ℕ → Call → Result (Answer s.Elem) Refusal
told s x L c = elim (refusal s L c) [ None ↦ Ok (reply s x L c) | Some q ↦ Err q ]

-- the list after any calls, one after another
unfoldable pub after : Sys → List ℕ → List Call → List ℕ
after s L [] = L
after s L (c ∷ cs) = after s (changed s L c) cs

-- the answers to any calls, one after another
unfoldable pub answers : (s : Sys) → s.Elem → List ℕ → List Call → List (Result (Answer s.Elem) Refusal)
answers s x L [] = []
answers s x L (c ∷ cs) = told s x L c ∷ answers s x (changed s L c) cs

-- an answer with its element by what it means
abbrev pub said : {A B : Type 0} → (A → B) → Result (Answer A) Refusal → Result (Answer B) Refusal
said mean (Ok (Count n)) = Ok (Count n)
said mean (Ok (Entry e)) = Ok (Entry e)
said mean (Ok (Seen n v)) = Ok (Seen n (mean v))
said mean (Err q) = Err q

-- each entry is below the limit
abbrev pub Below : ℕ → List ℕ → Type 0
Below limit L = Each (λ e. e < limit) L

pub Below_prop : (limit : ℕ) (L : List ℕ) → IsProp (Below limit L)
Below_prop limit [] = Unit-prop
Below_prop limit (e ∷ L) = ×_prop le_prop (Below_prop limit L)
