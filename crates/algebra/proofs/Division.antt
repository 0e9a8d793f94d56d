-- Two polynomials with n coefficients that agree at n points, any two of which differ by a unit, are equal. By synthetic division: where both agree at r,
-- the quotients by X - r agree at every other point, and they have one coefficient less.
use mathlib.Core.Path.{◌≡◌, refl, sym, ◌∙◌, ap, ap₂}
use mathlib.Core.List.{List, [], ◌∷◌}
use Prim.Native.Nat as N
use Prim.Native.Nat.{ℕ, suc, ◌≤◌}
use native.Mathlib.Omega.{arith}
use lib.ListN.{length}
use Rattle.algebra.specs.Ring.{Ops, Laws, sub}
use Rattle.algebra.specs.Units.{IsUnit}
use Rattle.algebra.specs.Polynomial.{value, Each, Apart, Agree, Agreement}
use Rattle.algebra.specs.Expr.{var, ◌⊞◌, ⊟, ◌⊠◌, same, among}
use Rattle.algebra.proofs.Laws as R
use Rattle.algebra.proofs.Units.{unit_cancel}
use Rattle.algebra.proofs.Polynomials.{horner}
use Rattle.algebra.proofs.Solver.{solve}

-- what holds of each in two ways holds in a third
each_both : {A : Type 0} (P Q S : A → Type 0) (xs : List A) → ((x : A) → P x → Q x → S x) → Each P xs → Each Q xs → Each S xs
each_both P Q S [] f h k = tt
each_both P Q S (x ∷ xs) f h k = (f x h.0 k.0, each_both P Q S xs f h.1 k.1)

module _ {A : Type 0} (o : Ops A) (L : Laws o) where
  infixl 60 ◌⊕◌
  infixl 70 ◌⊗◌
  open o use {add as ◌⊕◌, mul as ◌⊗◌, zero as 𝟘}
  open L use {add_comm, add-zero}

  -- the quotient by X - r of the polynomial c + X cs: each coefficient is the value at r of what stands above it
  quotient : A → List A → List A
  quotient r [] = []
  quotient r (c ∷ cs) = value o r (c ∷ cs) ∷ quotient r cs

  quotient-length : (r : A) (cs : List A) → length (quotient r cs) ≡ length cs
  unfolding quotient
  quotient-length r [] = refl
  quotient-length r (c ∷ cs) = ap suc (quotient-length r cs)

  -- f(y) = f(r) + (y - r) q(y)
  divides : (r y c : A) (cs : List A) → value o y (c ∷ cs) ≡ value o r (c ∷ cs) ⊕ sub o y r ⊗ value o y (quotient r cs)
  unfolding quotient same
  divides r y c [] = sym (ap (λ t. value o r (c ∷ []) ⊕ t) (R.mul-zero o L (sub o y r)) ∙ add-zero (value o r (c ∷ [])))
  divides r y c (b ∷ cs) =
      let v = value o r (b ∷ cs) in
      let q = value o y (quotient r cs) in
      let c' = var 0 in let y' = var 1 in let r' = var 2 in let v' = var 3 in let q' = var 4 in
      horner o L y c (b ∷ cs) ∙ ap (λ t. c ⊕ y ⊗ t) (divides r y b cs)
      ∙ solve o L (among o (c ∷ y ∷ r ∷ v ∷ q ∷ []))
      (c' ⊞ y' ⊠ (v' ⊞ (y' ⊞ ⊟ r') ⊠ q')) ((c' ⊞ r' ⊠ v') ⊞ (y' ⊞ ⊟ r') ⊠ (v' ⊞ y' ⊠ q')) tt
      ∙ sym (ap₂ (λ s t. s ⊕ sub o y r ⊗ t) (horner o L r c (b ∷ cs)) (horner o L y v (quotient r cs)))

  -- equal values and equal higher coefficients leave equal lowest ones
  same_lowest : (r a b : A) (cs ds : List A) → value o r (a ∷ cs) ≡ value o r (b ∷ ds) → cs ≡ ds → ◌≡◌ {A = List A} (a ∷ cs) (b ∷ ds)
  same_lowest r a b cs ds e rest =
      let w = r ⊗ value o r ds in
      let first : a ≡ b =
      R.add_cancel o L w a b
      (add_comm w a ∙ ap (λ t. a ⊕ r ⊗ value o r t) (sym rest) ∙ sym (horner o L r a cs) ∙ e ∙ horner o L r b ds ∙ add_comm b w) in
      ap₂ (λ (t : A) (ts : List A). t ∷ ts) first rest

  same_quotient : (r : A) (cs ds : List A) → quotient r cs ≡ quotient r ds → cs ≡ ds
  unfolding quotient
  same_quotient r [] [] q = refl
  same_quotient r [] (b ∷ ds) q = absurd (let z : length (quotient r []) ≡ length (quotient r (b ∷ ds)) = ap length q in omega arith)
  same_quotient r (a ∷ cs) [] q = absurd (let z : length (quotient r (a ∷ cs)) ≡ length (quotient r []) = ap length q in omega arith)
  same_quotient r (a ∷ cs) (b ∷ ds) q =
      let first : value o r (a ∷ cs) ≡ value o r (b ∷ ds) = cc in
      let rest : quotient r cs ≡ quotient r ds = cc in
      same_lowest r a b cs ds first (same_quotient r cs ds rest)

  -- where both agree at r and at y, the quotients agree at y
  quotient_agrees : (r y a b : A) (cs ds : List A) → value o r (a ∷ cs) ≡ value o r (b ∷ ds) → IsUnit o (sub o y r)
      → value o y (a ∷ cs) ≡ value o y (b ∷ ds) → value o y (quotient r cs) ≡ value o y (quotient r ds)
  quotient_agrees r y a b cs ds at-r apart at_y =
      let d = sub o y r in
      unit_cancel o L d (value o y (quotient r cs)) (value o y (quotient r ds)) apart
      (R.add_cancel o L (value o r (a ∷ cs)) (d ⊗ value o y (quotient r cs)) (d ⊗ value o y (quotient r ds))
      (sym (divides r y a cs) ∙ at_y ∙ divides r y b ds ∙ ap (λ t. t ⊕ d ⊗ value o y (quotient r ds)) (sym at-r)))

  agree : (n : ℕ) (f g points : List A) → length f ≡ n → length g ≡ n → n ≤ length points → Apart o points → Agree o points f g → f ≡ g
  agree n [] [] points lf lg h apart alike = refl
  agree n [] (b ∷ ds) points lf lg h apart alike = absurd (omega arith)
  agree n (a ∷ cs) [] points lf lg h apart alike = absurd (omega arith)
  agree n (a ∷ cs) (b ∷ ds) [] lf lg h apart alike = absurd (omega arith)
  agree N.zero (a ∷ cs) (b ∷ ds) (r ∷ ys) lf lg h apart alike = absurd (omega arith)
  agree (suc n) (a ∷ cs) (b ∷ ds) (r ∷ ys) lf lg h apart alike =
      same_lowest r a b cs ds alike.0
      (same_quotient r cs ds
      (agree n (quotient r cs) (quotient r ds) ys (quotient-length r cs ∙ omega arith) (quotient-length r ds ∙ omega arith) (omega arith) apart.1
      (each_both (λ y. IsUnit o (sub o y r)) (λ y. value o y (a ∷ cs) ≡ value o y (b ∷ ds)) (λ y. value o y (quotient r cs) ≡ value o y (quotient r ds)) ys
      (λ y i e. quotient_agrees r y a b cs ds alike.0 i e) apart.0 alike.1)))

  pub agreement : Agreement o
  agreement f g points same_length few apart alike = agree (length f) f g points refl (sym same_length) few apart alike
