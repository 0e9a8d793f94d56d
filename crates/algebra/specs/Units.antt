-- Units: the elements that have an inverse.
use Rattle.std.specs.Prelude.{◌≡◌}
use Rattle.algebra.specs.Ring.{Ops}

-- b is an inverse of a
abbrev pub Inverts : {A : Type 0} → Ops A → A → A → Type 0
Inverts o a b = o.mul a b ≡ o.one

-- a has an inverse
abbrev pub IsUnit : {A : Type 0} → Ops A → A → Type 0
IsUnit {A} o a = (b : A) × Inverts o a b

-- no element is an inverse of a
abbrev pub NoInverse : {A : Type 0} → Ops A → A → Type 0
NoInverse {A} o a = (b : A) → Inverts o a b → ⊥

-- the laws of units
pub record UnitLaws {A : Type 0} (o : Ops A) : Type 0 where
  pub inverse_unique : (a b c : A) → Inverts o a b → Inverts o a c → b ≡ c
  pub one_unit : IsUnit o o.one
  pub mul_unit : (a b : A) → IsUnit o a → IsUnit o b → IsUnit o (o.mul a b)
  pub factor_unit : (a b : A) → IsUnit o (o.mul a b) → IsUnit o a
  pub unit_cancel : (a x y : A) → IsUnit o a → o.mul a x ≡ o.mul a y → x ≡ y
