-- Reading an element from a list of one number, in a system whose elements mean such lists.
use Rattle.std.proofs.Common.{◌≡◌, ℕ, ◌<◌, ◌≤◌, List, [], ◌∷◌, length, get_or, Ok, Err, Result, sym, refl, ap, ◌∙◌, inr, arith}
use Rattle.algebra.specs.Ring.{multiple}
use Rattle.numbers.specs.Systems.{Sys}
use Rattle.numbers.specs.Lists.{Refused}
use Rattle.numbers.specs.declared.refusal.Refusal.{Refusal}
use Rattle.numbers.specs.declared.refusal.Refusal.TheVariants.{OverLimit}
use Rattle.bases.specs.Singles.{OneBelow}

-- a list of length one is its first number
single : (l : List ℕ) → length l ≡ 1 → l ≡ get_or l 0 0 ∷ []
single [] e = absurd (let z : length {A = ℕ} [] ≡ 1 = e in omega arith)
single (x ∷ []) e = refl
single (x ∷ y ∷ l) e = absurd (let z : length (x ∷ y ∷ l) ≡ 1 = e in omega arith)

-- a number from the limit on is not below it
not_below : (limit n : ℕ) (l : List ℕ) → l ≡ n ∷ [] → limit ≤ n → OneBelow limit l → ⊥
not_below limit n l e over one =
    let same : one.0 ≡ n = cc one.1 in
    let below : one.0 < limit = one.2 in
    omega arith

module _ (s : Sys) (one_number : s.size ≡ 1) (below : (l : List ℕ) → s.IsElement l → OneBelow s.limit l)
    (entries : (n : ℕ) → n < s.limit → s.list (multiple s.ops n) ≡ n ∷ []) where
  -- what the entry of the list's only number is
  pub from_entry : {V : Type 0} (mean : V → s.Elem) (l : List ℕ) → length l ≡ 1 → (r : Result V Refusal)
      → elim r as (λ x. Type 0) [
        | Ok v ↦ (get_or l 0 0 < s.limit) × (mean v ≡ multiple s.ops (get_or l 0 0))
        | Err e ↦ (s.limit ≤ get_or l 0 0) × (e ≡ OverLimit)
      ]
      → elim r as (λ x. Type 0) [ Ok v ↦ s.list (mean v) ≡ l | Err e ↦ Refused s (l ∷ []) e ]
  from_entry mean l e (Ok v) h = ap s.list h.1 ∙ entries (get_or l 0 0) h.0 ∙ sym (single l e)
  from_entry mean l e (Err r) h =
      inr ((e ∙ sym one_number, tt), (λ is. not_below s.limit (get_or l 0 0) l (single l e) h.0 (below l is.0)), h.1)
