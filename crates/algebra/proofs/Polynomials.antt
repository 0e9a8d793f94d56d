-- The value of a polynomial, from its lowest coefficient up.
use mathlib.Core.Path.{◌≡◌, sym, ◌∙◌, ap₂}
use mathlib.Core.List.{List, [], ◌∷◌}
use Prim.Native.Nat.{ℕ, suc}
use Rattle.algebra.specs.Ring.{Ops, Laws, power, total}
use Rattle.algebra.specs.Polynomial.{terms, value}
use Rattle.algebra.proofs.Laws as R

module _ {A : Type 0} (o : Ops A) (L : Laws o) where
  infixl 60 ◌⊕◌
  infixl 70 ◌⊗◌
  open o use {add as ◌⊕◌, mul as ◌⊗◌}
  open L use {mul-one, mul-add}

  -- one power more throughout is a factor x
  pub terms_shift : (x : A) (k : ℕ) (cs : List A) → total o (terms o x (suc k) cs) ≡ x ⊗ total o (terms o x k cs)
  terms_shift x k [] = sym (R.mul-zero o L x)
  terms_shift x k (c ∷ cs) =
      ap₂ ◌⊕◌ (R.mul_left_comm o L c x (power o x k)) (terms_shift x (suc k) cs)
      ∙ sym (mul-add x (c ⊗ power o x k) (total o (terms o x (suc k) cs)))

  -- Horner's form
  pub horner : (x c : A) (cs : List A) → value o x (c ∷ cs) ≡ c ⊕ x ⊗ value o x cs
  horner x c cs = ap₂ ◌⊕◌ (mul-one c) (terms_shift x 0 cs)
