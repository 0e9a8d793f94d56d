-- Bytes that are cut into equal parts, one for each coefficient.
use Rattle.std.proofs.Common.{◌≡◌, ℕ, suc, ◌+◌, ◌-◌, ◌*◌, ◌/◌, ◌%◌, ◌<◌, ◌≤◌, min, List, ◌++◌, length, take, drop, sym, refl, ap, ◌∙◌, subst, inl, inr, arith, below_more, length-drop, length-take, take-append-drop}
use Rattle.std.proofs.Math.Nat as Nat
use Rattle.std.proofs.lemmas.List.{drop-take}
use Rattle.std.proofs.lemmas.Slice.{take-put_mid_below, between-put_mid}
use borrow.Rule.Slice.PartMut.{put_mid}
use Rattle.numbers.specs.Systems.{Sys, Lawful}
use Rattle.numbers.specs.declared.refusal.Refusal.{Refusal}
use Rattle.extensions.specs.Tuples.{Tuple}
use Rattle.extensions.specs.Extensions.{extension}
use Rattle.extensions.proofs.Cuts.{part_within, parts_at}
use Rattle.encoding.specs.Bytes.{numbers_of, encoding, WholeLength, RefusedBytes}
use Rattle.encoding.proofs.Numbers.{bytes_length, numbers_drop, numbers_take}

-- a length that n divides is n parts
pub whole_parts : (n len : ℕ) → len % n ≡ 0 → len ≡ n * (len / n)
whole_parts n len e = sym (ap (λ r. n * (len / n) + r) (sym e) ∙ Nat.div-add-mod len n) ∙ Nat.add-zero (n * (len / n))

pub part_length : (p k : ℕ) (l : List ℕ) → k * p + p ≤ length l → length (take p (drop (k * p) l)) ≡ p
part_length p k l within = length-take p (drop (k * p) l) ∙ ap (min p) (length-drop (k * p) l) ∙ omega arith

module _ (d : ℕ) (B : Sys) (lawful : Lawful B) (times : Tuple (suc d) B.Elem → Tuple (suc d) B.Elem → Tuple (suc d) B.Elem) (l : List ℕ) where
  element_length : (m : List ℕ) → B.IsElement m → length m ≡ B.size
  element_length m h = let x = lawful.element_list m h in ap length (sym x.1) ∙ lawful.list_size x.0

  -- a length that the degree does not divide is none of an encoding
  pub uneven : (length l % suc d ≡ 0 → ⊥) → WholeLength (extension d B times) l → ⊥
  uneven h whole = h (ap (λ n. n % suc d) (whole ∙ Nat.mul_left_comm 4 (suc d) B.size) ∙ Nat.mul-mod_right (suc d) (4 * B.size))

  module _ (p k : ℕ) (len : length l ≡ suc d * p) (lt : k < suc d) where
    -- a part is as long as encodings below are where the list is as long as encodings are
    pub whole_part : WholeLength (extension d B times) l → p ≡ 4 * B.size
    whole_part whole = Nat.eq_of_mul-eq-mul_left (suc d) (omega arith) p (4 * B.size) (sym len ∙ whole ∙ Nat.mul_left_comm 4 (suc d) B.size)

    numbers_part : p ≡ 4 * B.size → take B.size (drop (k * B.size) (numbers_of l)) ≡ numbers_of (take p (drop (k * p) l))
    numbers_part same =
        sym (ap (λ p. numbers_of (take p (drop (k * p) l))) same
        ∙ numbers_take B.size (drop (k * (4 * B.size)) l)
        ∙ ap (λ i. take B.size (numbers_of (drop i l))) (Nat.mul_left_comm k 4 B.size)
        ∙ ap (take B.size) (numbers_drop (k * B.size) l))

    -- a part that is refused has the whole list refused likewise
    pub refused_part : length (take p (drop (k * p) l)) ≡ p → (r : Refusal) → RefusedBytes B (take p (drop (k * p) l)) r → RefusedBytes (extension d B times) l r
    refused_part long r (inl h) = inl (λ whole. h.0 (long ∙ whole_part whole), h.1)
    refused_part long r (inr h) =
        let same : p ≡ 4 * B.size = sym long ∙ h.0 in
        inr (
          len ∙ ap (λ n. suc d * n) same ∙ Nat.mul_left_comm (suc d) 4 B.size,
          (λ parts. h.1 (subst B.IsElement (numbers_part same) (parts_at B.IsElement B.size element_length (suc d) (numbers_of l) parts k lt))),
          h.2,
        )

-- a part that encodes an element has the length of encodings
pub encoded_part : (B : Sys) → Lawful B → (p k : ℕ) (l : List ℕ) (x : B.Elem) → k * p + p ≤ length l → encoding B x ≡ take p (drop (k * p) l) → p ≡ 4 * B.size
encoded_part B lawful p k l x within e =
    sym (part_length p k l within) ∙ ap length (sym e) ∙ bytes_length (B.list x) ∙ ap (λ n. 4 * n) (lawful.list_size x)

-- a part that is written as it was leaves the list as it was
pub part_kept : (a m : ℕ) (l : List ℕ) → put_mid a m l (take m (drop a l)) ≡ l
part_kept a m l = ap (λ r. take a l ++ r) (take-append-drop m (drop a l)) ∙ take-append-drop a l

-- one part more is as it should be
pub part_more : (P : ℕ → List ℕ → Type 0) (p k m : ℕ) (l new : List ℕ) → length new ≡ p → k * p + p ≤ length l
    → ((j : ℕ) → j < k → P j (take p (drop (j * p) l))) → P k new → (j : ℕ) → j < k + 1 → P j (take p (drop (j * p) (put_mid (k * p) m l new)))
part_more P p k m l new long within before here =
    let l' = put_mid (k * p) m l new in
    let inside : k * p ≤ length l = omega arith in
    let kept : (j : ℕ) → j < k → take p (drop (j * p) l') ≡ take p (drop (j * p) l) =
    λ j h. sym (drop-take (j * p) p l')
    ∙ ap (drop (j * p)) (take-put_mid_below (k * p) m l new (j * p + p) (part_within k p j (k * p) h refl) inside)
    ∙ drop-take (j * p) p l in
    let cancel : k * p + p - k * p ≡ p = Nat.add-sub_cancel_left (k * p) p in
    let written : take p (drop (k * p) l') ≡ new =
    ap (λ n. take n (drop (k * p) l')) (sym cancel) ∙ between-put_mid (k * p) m l new (k * p + p) inside (long ∙ sym cancel) in
    below_more (λ j. P j (take p (drop (j * p) l'))) k (λ j h. subst (P j) (sym (kept j h)) (before j h)) (subst (P k) (sym written) here)
