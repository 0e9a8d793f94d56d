-- Tuples that are written coefficient by coefficient.
use Rattle.std.proofs.Common.{◌≡◌, ℕ, suc, ◌+◌, ◌<◌, ◌≤◌, ◌≢◌, map, length, get_or, set, sym, refl, ap, ◌∙◌, subst, arith, get_or-set_other, get_or-set_same, below_more}
use Prim.Native.Nat as N
use lib.Seq.{map-set}
use Rattle.extensions.specs.Tuples.{Tuple, entries, tabulate, each, both, fill}
use Rattle.extensions.proofs.Natural.{entries-each, entries-length}
use Rattle.extensions.proofs.Tuples.{get_or-tabulate, tuple_same}

-- tuples with equal entries are equal
pub entries_injective : {A : Type 0} (n : ℕ) (s t : Tuple n A) → entries n s ≡ entries n t → s ≡ t
entries_injective N.zero s t e = refl
entries_injective {A} (suc n) s t e =
    let h : s.0 ≡ t.0 = cc in
    let r : entries n s.1 ≡ entries n t.1 = cc in
    λ i. (h i, entries_injective n s.1 t.1 r i)

-- a tuple whose coefficients are all known
pub tabulated : {A : Type 0} (n : ℕ) (f : ℕ → A) (t : Tuple n A) (z : A) → ((j : ℕ) → j < n → get_or (entries n t) j z ≡ f j) → t ≡ tabulate n f
tabulated n f t z h = tuple_same n t (tabulate n f) z (λ j l. h j l ∙ sym (get_or-tabulate n f j z l))

module _ {S E : Type 0} (m : S → E) (z : E) where
  -- what the coefficient at a place means, z beyond the last
  abbrev pub at : (n : ℕ) → Tuple n S → ℕ → E
  at n t j = get_or (entries n (each n m t)) j z

  means_set : (n : ℕ) (s t : Tuple n S) (k : ℕ) (x : S) → entries n t ≡ set (entries n s) k x
      → entries n (each n m t) ≡ set (entries n (each n m s)) k (m x)
  means_set n s t k x e =
      entries-each m n t ∙ ap (map m) e ∙ map-set m (entries n s) k x ∙ ap (λ l. set l k (m x)) (sym (entries-each m n s))

  -- one coefficient more is as it should be
  pub written_more : (n : ℕ) (Q : ℕ → E → Type 0) (s t : Tuple n S) (k : ℕ) (x : S) → entries n t ≡ set (entries n s) k x → k < n
      → ((j : ℕ) → j < k → Q j (at n s j)) → Q k (m x) → (j : ℕ) → j < k + 1 → Q j (at n t j)
  written_more n Q s t k x e lt before here =
      let l = entries n (each n m s) in
      let w = means_set n s t k x e in
      let long : k < length l = rw (entries-length E n (each n m s)) lt in
      below_more (λ j. Q j (at n t j)) k
      (λ j h.
      let ne : j ≢ k = omega arith in
      subst (Q j) (sym (ap (λ u. get_or u j z) w ∙ get_or-set_other l k j (m x) z ne)) (before j h))
      (subst (Q k) (sym (ap (λ u. get_or u k z) w ∙ get_or-set_same l k (m x) z long)) here)

  -- a tuple whose coefficient at power 0 is put anew
  pub put_first : (d : ℕ) (s t : Tuple (suc d) S) (x : S) → entries (suc d) t ≡ set (entries (suc d) s) 0 x → each (suc d) m t ≡ (m x, each d m s.1)
  put_first d s t x e = entries_injective (suc d) (each (suc d) m t) (m x, each d m s.1) (means_set (suc d) s t 0 x e)

get_or-fill : {A : Type 0} (n : ℕ) (x : A) (j : ℕ) → get_or (entries n (fill n x)) j x ≡ x
get_or-fill N.zero x j = refl
get_or-fill (suc n) x N.zero = refl
get_or-fill (suc n) x (suc j) = get_or-fill n x j

-- a tuple with zeros above power 0, place by place and as a whole
pub zeros_above : {A : Type 0} (d : ℕ) (t : Tuple (suc d) A) (z : A) → ((j : ℕ) → 1 ≤ j → j < suc d → get_or (entries (suc d) t) j z ≡ z) → t ≡ (t.0, fill d z)
zeros_above d t z h =
    let above : t.1 ≡ fill d z = tuple_same d t.1 (fill d z) z (λ j l. h (suc j) (omega arith) (omega arith) ∙ sym (get_or-fill d z j)) in
    λ i. (t.0, above i)

pub zero_above : {A : Type 0} (d : ℕ) (t : Tuple (suc d) A) (x z : A) → t ≡ (x, fill d z) → (k : ℕ) → 1 ≤ k → get_or (entries (suc d) t) k z ≡ z
zero_above d t x z e N.zero h = absurd (omega arith)
zero_above d t x z e (suc k) h = ap (λ u. get_or (entries (suc d) u) (suc k) z) e ∙ get_or-fill d z k

-- a map of each coefficient, and of both coefficients of two tuples, place by place
pub tabulate-each : {A B : Type 0} (f : A → B) (n : ℕ) (t : Tuple n A) (z : A) → tabulate n (λ j. f (get_or (entries n t) j z)) ≡ each n f t
tabulate-each f N.zero t z = refl
tabulate-each f (suc n) t z = λ i. (f t.0, tabulate-each f n t.1 z i)

pub tabulate-both : {A B C : Type 0} (f : A → B → C) (n : ℕ) (s : Tuple n A) (t : Tuple n B) (y : A) (z : B)
    → tabulate n (λ j. f (get_or (entries n s) j y) (get_or (entries n t) j z)) ≡ both n f s t
tabulate-both f N.zero s t y z = refl
tabulate-both f (suc n) s t y z = λ i. (f s.0 t.0, tabulate-both f n s.1 t.1 y z i)
