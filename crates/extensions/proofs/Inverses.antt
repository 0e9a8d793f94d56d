-- Inverses by conjugates: in an extension with a conjugation the norm lies in the layer below, and an element has an inverse exactly where its norm has one.
use Rattle.std.proofs.Common.{◌≡◌, ℕ, suc, sym, refl, ap, ◌∙◌}
use Prim.Native.Nat as N
use Rattle.algebra.specs.Ring.{Ops, Laws}
use Rattle.algebra.specs.Units.{Inverts}
use Rattle.algebra.proofs.Laws as R
use Rattle.extensions.specs.Tuples.{Tuple, fill}
use Rattle.extensions.specs.Extensions.{extend}
use Rattle.extensions.specs.Conjugates.{embed, scaled, conjugates, Conjugation}
use Rattle.extensions.proofs.Norms as M

-- zeros times anything are zeros
pub scaled-fill : {A : Type 0} (o : Ops A) → Laws o → (n : ℕ) (u : A) → scaled n o u (fill n o.zero) ≡ fill n o.zero
scaled-fill o L N.zero u = refl
scaled-fill o L (suc n) u = λ i. (R.zero-mul o L u i, scaled-fill o L n u i)

module _ {A : Type 0} (d : ℕ) (o : Ops A) (L : Laws o) (mul : Tuple (suc d) A → Tuple (suc d) A → Tuple (suc d) A) (E : Laws (extend d o mul))
    (scales : (a : Tuple (suc d) A) (u : A) → mul a (embed d o u) ≡ scaled (suc d) o u a)
    (φ : Tuple (suc d) A → Tuple (suc d) A) (C : Conjugation d o mul φ) where
  abbrev pub ext : Ops (Tuple (suc d) A)
  ext = extend d o mul

  -- the product of all conjugates, and of all but the first
  abbrev pub whole : Tuple (suc d) A → Tuple (suc d) A
  whole a = conjugates ext φ (suc d) a

  abbrev pub others : Tuple (suc d) A → Tuple (suc d) A
  others a = φ (conjugates ext φ d a)

  whole_below : (a : Tuple (suc d) A) → whole a ≡ embed d o (whole a).0
  whole_below a = C.only_below (whole a) (M.norm_fixed ext E φ (C.below o.one) C.products d a (C.period a))

  pub inverse_by_conjugates : (a : Tuple (suc d) A) (n : A) → Inverts o (mul a (others a)).0 n → Inverts ext a (scaled (suc d) o n (others a))
  inverse_by_conjugates a n e =
      ap (mul a) (sym (scales (others a) n)) ∙ sym (E.mul_assoc a (others a) (embed d o n)) ∙ scales (whole a) n
      ∙ ap (scaled (suc d) o n) (whole_below a)
      ∙ (λ i. (e i, scaled-fill o L d n i))

  pub conjugates_inverse : (a b : Tuple (suc d) A) → Inverts ext a b → Inverts o (mul a (others a)).0 (whole b).0
  conjugates_inverse a b e =
      ap (λ t. t.0)
      (sym (scales (whole a) (whole b).0) ∙ ap (mul (whole a)) (sym (whole_below b)) ∙ M.norm_inverse ext E φ (C.below o.one) C.products (suc d) a b e)
