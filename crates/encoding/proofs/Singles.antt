-- Reading an element from the bytes of one number, in residues.
use Rattle.std.proofs.Common.{◌≡◌, ℕ, ◌<◌, ◌≤◌, List, [], ◌∷◌, length, Ok, Err, Result, sym, ap, ◌∙◌, inr, arith}
use Rattle.algebra.specs.Ring.{multiple}
use Rattle.numbers.specs.declared.refusal.Refusal.{Refusal}
use Rattle.numbers.specs.declared.refusal.Refusal.TheVariants.{OverLimit}
use Rattle.bases.specs.Residues.{Res, residues}
use Rattle.bases.specs.ResiduesLemmas.{number_multiple}
use Rattle.bases.specs.Singles.{OneBelow}
use Rattle.encoding.specs.Bytes.{bytes_of, numbers_of, encoding, RefusedBytes}

-- a number from the limit on is not below it
not_below : (limit n : ℕ) (l : List ℕ) → l ≡ n ∷ [] → limit ≤ n → OneBelow limit l → ⊥
not_below limit n l e over one =
    let same : one.0 ≡ n = cc one.1 in
    let below : one.0 < limit = one.2 in
    omega arith

-- what the entry of the only number is
pub from_entry : (m : ℕ) (low : 2 ≤ m) {V : Type 0} (mean : V → Res m) (bytes : List ℕ) (n : ℕ) → bytes_of (n ∷ []) ≡ bytes → numbers_of bytes ≡ n ∷ []
    → (r : Result V Refusal)
    → elim r as (λ x. Type 0) [
      | Ok v ↦ (n < m) × (mean v ≡ multiple (residues m low).ops n)
      | Err e ↦ (m ≤ n) × (e ≡ OverLimit)
    ]
    → elim r as (λ x. Type 0) [ Ok v ↦ encoding (residues m low) (mean v) ≡ bytes | Err e ↦ RefusedBytes (residues m low) bytes e ]
from_entry m low mean bytes n e k (Ok v) h =
    ap (encoding (residues m low)) h.1 ∙ ap (λ n. bytes_of (n ∷ [])) (number_multiple m low n h.0) ∙ e
from_entry m low mean bytes n e k (Err r) h = inr (ap length (sym e), not_below m n (numbers_of bytes) k h.0, h.1)
