-- The laws of units.
use mathlib.Core.Path.{◌≡◌, sym, ◌∙◌, ap, ap₂}
use Rattle.algebra.specs.Ring.{Ops, Laws}
use Rattle.algebra.specs.Units.{Inverts, IsUnit, UnitLaws}
use Rattle.algebra.proofs.Laws as R

module _ {A : Type 0} (o : Ops A) (L : Laws o) where
  infixl 70 ◌⊗◌
  open o use {mul as ◌⊗◌, one as 𝟙}
  open L use {mul_assoc, mul_comm, mul-one}

  -- b (a x) = x where b inverts a
  pub unscale : (a b x : A) → Inverts o a b → b ⊗ (a ⊗ x) ≡ x
  unscale a b x e = sym (mul_assoc b a x) ∙ ap (λ t. t ⊗ x) (mul_comm b a ∙ e) ∙ R.one-mul o L x

  pub unit_cancel : (a x y : A) → IsUnit o a → a ⊗ x ≡ a ⊗ y → x ≡ y
  unit_cancel a x y u e = sym (unscale a u.0 x u.1) ∙ ap (λ t. u.0 ⊗ t) e ∙ unscale a u.0 y u.1

  pub inverse_unique : (a b c : A) → Inverts o a b → Inverts o a c → b ≡ c
  inverse_unique a b c p q = unit_cancel a b c (b, p) (p ∙ sym q)

  pub mul_unit : (a b : A) → IsUnit o a → IsUnit o b → IsUnit o (a ⊗ b)
  mul_unit a b u v = (u.0 ⊗ v.0, R.mul_swap o L a b u.0 v.0 ∙ ap₂ ◌⊗◌ u.1 v.1 ∙ mul-one 𝟙)

  pub factor_unit : (a b : A) → IsUnit o (a ⊗ b) → IsUnit o a
  factor_unit a b u = (b ⊗ u.0, sym (mul_assoc a b u.0) ∙ u.1)

  pub unit_laws_hold : UnitLaws o
  unit_laws_hold = record {
    inverse_unique = inverse_unique;
    one_unit = (𝟙, mul-one 𝟙);
    mul_unit = mul_unit;
    factor_unit = factor_unit;
    unit_cancel = unit_cancel;
  }
