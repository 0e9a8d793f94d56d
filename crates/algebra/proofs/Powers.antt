-- Powers and finite sums.
use mathlib.Core.Path.{◌≡◌, refl, sym, ◌∙◌, ap}
use mathlib.Core.List.{List, [], ◌∷◌, ◌++◌, map}
use Prim.Native.Nat as N
use Prim.Native.Nat.{ℕ, suc, ◌+◌, ◌*◌}
use native.Mathlib.Nat as Nat
use Rattle.algebra.specs.Ring.{Ops, Laws, Derived, Counting, power, total}
use Rattle.algebra.proofs.Laws as R
use Rattle.algebra.proofs.Multiples as M

module _ {A : Type 0} (o : Ops A) (L : Laws o) where
  infixl 60 ◌⊕◌
  infixl 70 ◌⊗◌
  open o use {add as ◌⊕◌, mul as ◌⊗◌, zero as 𝟘, one as 𝟙}
  open L use {add_assoc, add_comm, add-zero, mul_assoc, mul_comm, mul-one, mul-add}

  pub power-add : (x : A) (m n : ℕ) → power o x (m + n) ≡ power o x m ⊗ power o x n
  power-add x N.zero n = ap (power o x) (Nat.zero-add n) ∙ sym (R.one-mul o L (power o x n))
  power-add x (suc m) n =
      ap (power o x) (Nat.suc-add m n) ∙ ap (λ z. x ⊗ z) (power-add x m n) ∙ sym (mul_assoc x (power o x m) (power o x n))

  pub mul_power : (x y : A) (n : ℕ) → power o (x ⊗ y) n ≡ power o x n ⊗ power o y n
  mul_power x y N.zero = sym (mul-one 𝟙)
  mul_power x y (suc n) = ap (λ z. (x ⊗ y) ⊗ z) (mul_power x y n) ∙ R.mul_swap o L x y (power o x n) (power o y n)

  pub one_power : (n : ℕ) → power o 𝟙 n ≡ 𝟙
  one_power N.zero = refl
  one_power (suc n) = R.one-mul o L (power o 𝟙 n) ∙ one_power n

  pub power-mul : (x : A) (m n : ℕ) → power o x (m * n) ≡ power o (power o x m) n
  power-mul x N.zero n = ap (power o x) (Nat.zero-mul n) ∙ sym (one_power n)
  power-mul x (suc m) n =
      ap (power o x) (Nat.suc-mul m n) ∙ power-add x (m * n) n ∙ ap (λ z. z ⊗ power o x n) (power-mul x m n)
      ∙ mul_comm (power o (power o x m) n) (power o x n) ∙ sym (mul_power x (power o x m) n)

  pub power_two : (x : A) → power o x 2 ≡ x ⊗ x
  power_two x = ap (λ z. x ⊗ z) (mul-one x)

  pub total-append : (xs ys : List A) → total o (xs ++ ys) ≡ total o xs ⊕ total o ys
  total-append [] ys = sym (R.zero-add o L (total o ys))
  total-append (x ∷ xs) ys = ap (λ z. x ⊕ z) (total-append xs ys) ∙ sym (add_assoc x (total o xs) (total o ys))

  pub mul-total : (x : A) (ys : List A) → x ⊗ total o ys ≡ total o (map (o.mul x) ys)
  mul-total x [] = R.mul-zero o L x
  mul-total x (y ∷ ys) = mul-add x y (total o ys) ∙ ap (λ z. x ⊗ y ⊕ z) (mul-total x ys)

  pub derived : Derived o
  derived = record {
    zero-add = R.zero-add o L;
    one-mul = R.one-mul o L;
    add-mul = R.add-mul o L;
    mul-zero = R.mul-zero o L;
    add_cancel = R.add_cancel o L;
    neg_unique = R.neg_unique o L;
    neg-neg = R.neg-neg o L;
    neg-add = R.neg-add o L;
    neg-mul = R.neg-mul o L;
  }

  pub counting : Counting o
  counting = record {
    multiple-add = M.multiple-add o L;
    multiple-mul = M.multiple-mul o L;
    power-add = power-add;
    power-mul = power-mul;
    mul_power = mul_power;
    total-append = total-append;
    mul-total = mul-total;
  }
