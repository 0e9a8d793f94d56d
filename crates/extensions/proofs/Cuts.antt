-- A list that is cut into equal parts, one for each coefficient.
use Rattle.std.proofs.Common.{◌≡◌, ℕ, suc, ◌+◌, ◌-◌, ◌*◌, ◌/◌, ◌%◌, ◌<◌, ◌≤◌, min, ◌⊎◌, List, [], ◌∷◌, ◌++◌, length, get_or, take, drop, sym, refl, ap, ◌∙◌, subst, ap₂, inl, inr, ⊎_elim, arith, length-drop, take-append-drop}
use Prim.Native.Nat as N
use native.Mathlib.Nat as Nat
use Rattle.std.proofs.lemmas.List.{get_or_append_left, get_or-append-add, drop-drop, drop_at, take_at}
use Rattle.std.proofs.lemmas.Bool.{cases_lt}
use Rattle.numbers.specs.Systems.{Sys, Lawful}
use Rattle.numbers.specs.Lists.{Refused}
use Rattle.numbers.specs.declared.refusal.Refusal.{Refusal}
use Rattle.numbers.specs.declared.refusal.Refusal.TheVariants.{CutList}
use Rattle.extensions.specs.Tuples.{Tuple, entries}
use Rattle.extensions.specs.Extensions.{joined, Parts}
use Rattle.extensions.specs.Layers.{Extends}

no_length : (l : List ℕ) → length l ≡ 0 → l ≡ []
no_length [] e = refl
no_length (x ∷ l) e = absurd (omega arith)

-- the lists of a system are not empty, since one is not zero
pub size_positive : (s : Sys) → Lawful s → 0 < s.size
size_positive s lawful = go s.size refl
  where
    go : (n : ℕ) → n ≡ s.size → 0 < n
    go N.zero e =
        let none : (x : s.Elem) → s.list x ≡ [] = λ x. no_length (s.list x) (lawful.list_size x ∙ sym e) in
        absurd (lawful.one_not_zero (lawful.list_injective s.ops.one s.ops.zero (none s.ops.one ∙ sym (none s.ops.zero))))
    go (suc n) e = omega arith

-- the part for coefficient k lies within the list
pub part_within : (n p k len : ℕ) → k < n → len ≡ n * p → k * p + p ≤ len
part_within n p k len h e =
    let f : suc k * p ≤ n * p = Nat.mul-le-mul_right p h in
    omega (arith, Nat.suc-mul k p)

module _ {A : Type 0} (list : A → List ℕ) (z : A) where
  -- the number at a place of the joined list, by the part that it lies in
  pub joined_at : (size : ℕ) → ((x : A) → length (list x) ≡ size) → (n : ℕ) (t : Tuple n A) (q r : ℕ) → q < n → r < size
      → get_or (joined n list t) (q * size + r) 0 ≡ get_or (list (get_or (entries n t) q z)) r 0
  joined_at size h N.zero t q r lt lr = absurd (omega arith)
  joined_at size h (suc n) t N.zero r lt lr =
      let l : r < length (list t.0) = omega (arith, h t.0) in
      ap (λ i. get_or (list t.0 ++ joined n list t.1) i 0) (ap (λ i. i + r) (Nat.zero-mul size) ∙ Nat.zero-add r)
      ∙ get_or_append_left (list t.0) (joined n list t.1) 0 r l
  joined_at size h (suc n) t (suc q) r lt lr =
      let i : suc q * size + r ≡ length (list t.0) + (q * size + r) = omega (arith, h t.0, Nat.suc-mul q size) in
      ap (λ i. get_or (list t.0 ++ joined n list t.1) i 0) i
      ∙ get_or-append-add (list t.0) (joined n list t.1) (q * size + r) 0
      ∙ joined_at size h n t.1 q r (omega arith) lr

  -- coefficients that mean the parts of a list mean the list together
  pub joined_parts_list : (p n : ℕ) (t : Tuple n A) (l : List ℕ) → length l ≡ n * p
      → ((k : ℕ) → k < n → list (get_or (entries n t) k z) ≡ take p (drop (k * p) l)) → joined n list t ≡ l
  joined_parts_list p N.zero t l e h = sym (no_length l (e ∙ Nat.zero-mul p))
  joined_parts_list p (suc n) t l e h =
      let rest : length (drop p l) ≡ n * p = length-drop p l ∙ ap (λ m. m - p) (e ∙ Nat.suc-mul n p) ∙ Nat.add-sub_cancel (n * p) p in
      ap₂ ◌++◌ (h 0 (omega arith) ∙ ap (λ i. take p (drop i l)) (Nat.zero-mul p))
      (joined_parts_list p n t.1 (drop p l) rest
      (λ k lt. h (suc k) (omega arith)
      ∙ ap (take p) (ap (λ i. drop i l) (Nat.suc-mul k p ∙ Nat.add_comm (k * p) p) ∙ sym (drop-drop (k * p) p l))))
      ∙ take-append-drop p l

-- a part is as long as it should be, or longer than what is shown
small_or_large : (size : ℕ) → (min size 65535 ≡ size) ⊎ ((min size 65535 ≡ 65535) × (65535 < size))
small_or_large size = ⊎_elim (λ (h : 65535 < size). inr (omega arith, h)) (λ (h : size ≤ 65535). inl (omega arith)) (cases_lt 65535 size)

-- a place in no part lies beyond the list, or beyond what is shown of it
pub beyond_parts : (n size place : ℕ) → 0 < n → n ≤ place / min size 65535 → min 65535 (n * size) ≤ place
beyond_parts n size place pos h =
    let m = min size 65535 in
    let f : n * m ≤ place = Nat.le_trans (Nat.mul-le-mul_right m h) (Nat.div-mul-le_self place m) in
    ⊎_elim
    (λ (e : m ≡ size). let g : n * size ≤ place = subst (λ k. n * k ≤ place) e f in omega arith)
    (λ (e : (m ≡ 65535) × (65535 < size)).
    let g : n * 65535 ≤ place = subst (λ k. n * k ≤ place) e.0 f in
    omega arith)
    (small_or_large size)

module _ {A : Type 0} (list : A → List ℕ) (z : A) where
  -- the number at a place that is shown
  pub shown_at : (size : ℕ) → 0 < size → ((x : A) → length (list x) ≡ size) → (n : ℕ) (t : Tuple n A) (place : ℕ) → place < 65535 → place / min size 65535 < n
      → get_or (joined n list t) place 0 ≡ get_or (list (get_or (entries n t) (place / min size 65535) z)) (place % min size 65535) 0
  shown_at size pos h n t place low lt =
      ⊎_elim
      (λ (e : min size 65535 ≡ size).
      let P : ℕ → Type 0 = λ m. place / m < n → get_or (joined n list t) place 0 ≡ get_or (list (get_or (entries n t) (place / m) z)) (place % m) 0 in
      subst P (sym e)
      (λ q. ap (λ i. get_or (joined n list t) i 0) (sym (Nat.div-add-mod' place size)) ∙ joined_at list z size h n t (place / size) (place % size) q (Nat.mod-lt place pos))
      lt)
      (λ (e : (min size 65535 ≡ 65535) × (65535 < size)).
      let P : ℕ → Type 0 = λ m. place / m < n → get_or (joined n list t) place 0 ≡ get_or (list (get_or (entries n t) (place / m) z)) (place % m) 0 in
      subst P (sym e.0)
      (λ q.
      let zero : place / 65535 ≡ 0 = Nat.div-eq_of_lt low in
      let first : 0 < n = omega arith in
      let whole : place < size = omega (arith, e.1) in
      ap (λ i. get_or (joined n list t) i 0) (sym (ap (λ i. i + place) (Nat.zero-mul size) ∙ Nat.zero-add place))
      ∙ joined_at list z size h n t 0 place first whole
      ∙ ap₂ (λ i r. get_or (list (get_or (entries n t) i z)) r 0) (sym zero) (sym (Nat.mod-eq_of_lt low)))
      lt)
      (small_or_large size)

-- each part of a list in parts has the property
pub parts_at : (P : List ℕ → Type 0) (p : ℕ) → ((m : List ℕ) → P m → length m ≡ p) → (n : ℕ) (l : List ℕ) → Parts n P l → (k : ℕ) → k < n → P (take p (drop (k * p) l))
parts_at P p fixed N.zero l parts k lt = absurd (omega arith)
parts_at P p fixed (suc n) l parts N.zero lt =
    let h = parts.0 in
    let t = parts.1 in
    subst P (sym (ap₂ (λ i m. take p (drop i m)) (Nat.zero-mul p) parts.2 ∙ take_at h t p (fixed h parts.3))) parts.3
parts_at P p fixed (suc n) l parts (suc k) lt =
    let h = parts.0 in
    let t = parts.1 in
    subst P
    (sym (ap₂ (λ i m. take p (drop i m)) (Nat.suc-mul k p ∙ Nat.add_comm (k * p) p) parts.2
    ∙ ap (take p) (sym (drop-drop (k * p) p (h ++ t)) ∙ ap (drop (k * p)) (drop_at h t p (fixed h parts.3)))))
    (parts_at P p fixed n t parts.4 k (omega arith))

module _ (d : ℕ) (B : Sys) (lawful : Lawful B) (times : Tuple (suc d) B.Elem → Tuple (suc d) B.Elem → Tuple (suc d) B.Elem) (s : Sys) (e : Extends d B times s)
    (l : List ℕ) where
  element_length : (m : List ℕ) → B.IsElement m → length m ≡ B.size
  element_length m h = let x = lawful.element_list m h in ap length (sym x.1) ∙ lawful.list_size x.0

  -- a length that the degree does not divide is none of an element
  pub uneven : (length l % suc d ≡ 0 → ⊥) → Refused s (l ∷ []) CutList
  uneven h = inl (λ sized. h (ap (λ n. n % suc d) (sized.0 ∙ e.size) ∙ Nat.mul-mod_right (suc d) B.size), refl)

  -- a part that is refused has the whole list refused likewise
  pub refused_part : (p k : ℕ) → length l ≡ suc d * p → k < suc d → length (take p (drop (k * p) l)) ≡ p → (r : Refusal)
      → Refused B (take p (drop (k * p) l) ∷ []) r → Refused s (l ∷ []) r
  refused_part p k len lt long r (inl h) =
      inl (
        (λ sized. h.0
            (long ∙ Nat.eq_of_mul-eq-mul_left (suc d) (omega arith) p B.size (sym len ∙ sized.0 ∙ e.size), tt)),
        h.1,
      )
  refused_part p k len lt long r (inr h) =
      let same : p ≡ B.size = sym long ∙ h.0.0 in
      inr (
        (len ∙ ap (λ n. suc d * n) same ∙ sym e.size, tt),
        (λ elements. h.1 (parts_at B.IsElement p (λ m x. element_length m x ∙ sym same) (suc d) l (e.parts l elements.0) k lt, tt)),
        h.2,
      )
