-- The entries that a ring of slots holds: what a write into a slot, a later end and a later start make of them.
use Rattle.std.proofs.Common.{◌≡◌, ℕ, zero, suc, ◌+◌, ◌-◌, ◌%◌, ◌<◌, ◌≤◌, ◌≢◌, List, [], ◌∷◌, ◌++◌, length, get_or, set, sym, refl, ap, ◌∙◌, add-zero, add-one, arith, length-set, get_or-set_other, get_or-set_same}
use native.Mathlib.Decide.{ℕ_discrete}
use Rattle.std.proofs.lemmas.List.{ext_get_or}
use Rattle.reading.specs.Sheet.{most}
use Rattle.reading.specs.Windows.{window}

pub window_length : (t : List ℕ) (s n : ℕ) → length (window t s n) ≡ n
unfolding window
window_length t s zero = refl
window_length t s (suc n) = ap suc (window_length t (s + 1) n)

pub window_at : (t : List ℕ) (s n i : ℕ) → i < n → get_or (window t s n) i 0 ≡ get_or t ((s + i) % most) 0
unfolding window
window_at t s zero i h = absurd (omega arith)
window_at t s (suc n) zero h = ap (λ k. get_or t (k % most) 0) (sym (add-zero s))
window_at t s (suc n) (suc i) h = window_at t (s + 1) n i (omega arith) ∙ ap (λ k. get_or t (k % most) 0) (omega arith)

-- a write at a place of the window
pub window_set : (t : List ℕ) (s n i e : ℕ) → length t ≡ most → n ≤ most → i < n → window (set t ((s + i) % most) e) s n ≡ set (window t s n) i e
window_set t s n i e len fits h =
    let p = (s + i) % most in
    let sized : length (window (set t p e) s n) ≡ length (set (window t s n) i e) = window_length (set t p e) s n ∙ sym (length-set (window t s n) i e ∙ window_length t s n) in
    ext_get_or 0 (window (set t p e) s n) (set (window t s n) i e) sized (
    λ k below.
    let k-in : k < n = omega (arith, window_length (set t p e) s n) in
    let p-in : p < length t = omega arith in
    let i-in : i < length (window t s n) = omega (arith, window_length t s n) in
    window_at (set t p e) s n k k-in
    ∙ elim (ℕ_discrete k i) [
      | yes same ↦
          ap (λ j. get_or (set t p e) ((s + j) % most) 0) same ∙ get_or-set_same t p e 0 p-in
          ∙ sym (ap (λ j. get_or (set (window t s n) i e) j 0) same ∙ get_or-set_same (window t s n) i e 0 i-in)
      | no other ↦
          let apart : (s + k) % most ≢ p = omega arith in
          get_or-set_other t p ((s + k) % most) e 0 apart ∙ sym (get_or-set_other (window t s n) i k e 0 other ∙ window_at t s n k k-in)
    ]
    )

-- one number more at the end
window_more : (t : List ℕ) (s n : ℕ) → window t s (suc n) ≡ window t s n ++ (get_or t ((s + n) % most) 0 ∷ [])
unfolding window
window_more t s zero = ap (λ k. get_or t (k % most) 0 ∷ []) (sym (add-zero s))
window_more t s (suc n) =
    ap (λ w. get_or t (s % most) 0 ∷ w) (window_more t (s + 1) n ∙ ap (λ k. window t (s + 1) n ++ (get_or t (k % most) 0 ∷ [])) (omega arith))

-- a write behind the window
window_past : (t : List ℕ) (s n e : ℕ) → n < most → window (set t ((s + n) % most) e) s n ≡ window t s n
window_past t s n e fits =
    let p = (s + n) % most in
    let sized : length (window (set t p e) s n) ≡ length (window t s n) = window_length (set t p e) s n ∙ sym (window_length t s n) in
    ext_get_or 0 (window (set t p e) s n) (window t s n) sized (
    λ k below.
    let k-in : k < n = omega (arith, window_length (set t p e) s n) in
    let apart : (s + k) % most ≢ p = omega arith in
    window_at (set t p e) s n k k-in ∙ get_or-set_other t p ((s + k) % most) e 0 apart ∙ sym (window_at t s n k k-in)
    )

-- a write behind the window, and the end moved past it
pub window_append : (t : List ℕ) (s n e : ℕ) → length t ≡ most → n < most → window (set t ((s + n) % most) e) s (n + 1) ≡ window t s n ++ (e ∷ [])
window_append t s n e len fits =
    let p = (s + n) % most in
    let p-in : p < length t = omega arith in
    ap (window (set t p e) s) (add-one n) ∙ window_more (set t p e) s n
    ∙ ap (λ w. w ++ (get_or (set t p e) p 0 ∷ [])) (window_past t s n e fits)
    ∙ ap (λ v. window t s n ++ (v ∷ [])) (get_or-set_same t p e 0 p-in)

-- the place of the start matters only round the table
window_round : (t : List ℕ) (s r n : ℕ) → s % most ≡ r % most → window t s n ≡ window t r n
unfolding window
window_round t s r zero e = refl
window_round t s r (suc n) e =
    ap (λ k. get_or t k 0 ∷ window t (s + 1) n) e ∙ ap (λ w. get_or t (r % most) 0 ∷ w) (window_round t (s + 1) (r + 1) n (omega arith))

-- the first number, and the window with its start moved past it
pub window_drop : (t : List ℕ) (s n : ℕ) → s < most → 0 < n → window t s n ≡ get_or t s 0 ∷ window t ((s + 1) % most) (n - 1)
unfolding window
window_drop t s zero b h = absurd (omega arith)
window_drop t s (suc n) b h =
    ap (λ k. get_or t k 0 ∷ window t (s + 1) n) (omega arith)
    ∙ ap (λ w. get_or t s 0 ∷ w) (window_round t (s + 1) ((s + 1) % most) n (omega arith) ∙ ap (window t ((s + 1) % most)) (omega arith))
