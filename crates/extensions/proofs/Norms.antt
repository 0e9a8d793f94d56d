-- The norm by conjugates, over any ring with a map that keeps one and products. Where the map has period d + 1 and leaves only the layer below where it is, the product of
-- all conjugates of an element lies there, and the element has an inverse exactly where that product has one.
use Rattle.std.proofs.Common.{◌≡◌, ℕ, suc, sym, refl, ap, ◌∙◌}
use Prim.Native.Nat as N
use Rattle.algebra.specs.Ring.{Ops, Laws}
use Rattle.algebra.specs.Units.{Inverts}
use Rattle.algebra.proofs.Laws as R
use Rattle.extensions.specs.Conjugates.{repeated, conjugates}

module _ {E : Type 0} (o : Ops E) (L : Laws o) (φ : E → E) (φ-one : φ o.one ≡ o.one)
    (φ-mul : (a b : E) → φ (o.mul a b) ≡ o.mul (φ a) (φ b)) where
  -- the last conjugate apart
  conjugates_last : (k : ℕ) (a : E) → conjugates o φ (suc k) a ≡ o.mul (conjugates o φ k a) (repeated φ k a)
  conjugates_last N.zero a = ap (o.mul a) φ-one ∙ L.mul_comm a o.one
  conjugates_last (suc k) a =
      ap (λ t. o.mul a (φ t)) (conjugates_last k a)
      ∙ ap (o.mul a) (φ-mul (conjugates o φ k a) (repeated φ k a))
      ∙ sym (L.mul_assoc a (φ (conjugates o φ k a)) (φ (repeated φ k a)))

  -- the norm is left where it is
  pub norm_fixed : (d : ℕ) (a : E) → repeated φ (suc d) a ≡ a → φ (conjugates o φ (suc d) a) ≡ conjugates o φ (suc d) a
  norm_fixed d a period =
      ap φ (conjugates_last d a) ∙ φ-mul (conjugates o φ d a) (repeated φ d a)
      ∙ ap (o.mul (φ (conjugates o φ d a))) period ∙ L.mul_comm (φ (conjugates o φ d a)) a

  pub norm_mul : (k : ℕ) (a b : E) → conjugates o φ k (o.mul a b) ≡ o.mul (conjugates o φ k a) (conjugates o φ k b)
  norm_mul N.zero a b = sym (L.mul-one o.one)
  norm_mul (suc k) a b =
      ap (o.mul (o.mul a b)) (ap φ (norm_mul k a b) ∙ φ-mul (conjugates o φ k a) (conjugates o φ k b))
      ∙ R.mul_swap o L a b (φ (conjugates o φ k a)) (φ (conjugates o φ k b))

  pub norm_one : (k : ℕ) → conjugates o φ k o.one ≡ o.one
  norm_one N.zero = refl
  norm_one (suc k) = ap (o.mul o.one) (ap φ (norm_one k) ∙ φ-one) ∙ L.mul-one o.one

  -- an inverse of the element gives one of the norm, and an inverse of the norm gives one of the element
  pub norm_inverse : (k : ℕ) (a b : E) → Inverts o a b → Inverts o (conjugates o φ k a) (conjugates o φ k b)
  norm_inverse k a b e = sym (norm_mul k a b) ∙ ap (conjugates o φ k) e ∙ norm_one k

  pub inverse_is_by_norm : (d : ℕ) (a n : E) → Inverts o (conjugates o φ (suc d) a) n → Inverts o a (o.mul (φ (conjugates o φ d a)) n)
  inverse_is_by_norm d a n e = sym (L.mul_assoc a (φ (conjugates o φ d a)) n) ∙ e

  -- the four conjugates of an element but itself, by three products
  pub conjugates_four : (a : E)
      → o.mul (φ (o.mul a (φ a))) (repeated φ 2 (φ (o.mul a (φ a)))) ≡ φ (conjugates o φ 4 a)
  conjugates_four a =
      let two : conjugates o φ 2 a ≡ o.mul a (φ a) = ap (λ t. o.mul a (φ t)) (ap (o.mul a) φ-one ∙ L.mul-one a) in
      let four : conjugates o φ 4 a ≡ o.mul (o.mul a (φ a)) (φ (φ (o.mul a (φ a)))) =
      ap (o.mul a) (φ-mul a (φ (conjugates o φ 2 a)) ∙ ap (λ t. o.mul (φ a) (φ (φ t))) two)
      ∙ sym (L.mul_assoc a (φ a) (φ (φ (o.mul a (φ a))))) in
      sym (ap φ four ∙ φ-mul (o.mul a (φ a)) (φ (φ (o.mul a (φ a)))))
