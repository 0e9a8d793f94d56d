-- The laws of the residues modulo m.
use Rattle.std.specs.Prelude.{◌≡◌, ℕ, zero, suc, ◌+◌, ◌-◌, ◌*◌, ◌%◌, ◌<◌, ◌≤◌, refl}
use Rattle.std.proofs.Common.{sym, ◌∙◌, ap, mod-eq_of_lt, arith}
use mathlib.Core.HLevel.{Σ_prop_path}
use Rattle.std.proofs.Math.Bridge.{le_prop}
use Rattle.std.proofs.Math.Nat as Nat
use Rattle.std.proofs.Math.Nat.{add-mod, mod-add-mod, add-mod-mod, mod_self}
use Rattle.std.proofs.lemmas.Nat.{mul-mod, mul-mod_first, mul-mod_second}
use Rattle.algebra.specs.Ring.{Laws, multiple}
use Rattle.numbers.specs.Systems.{Lawful}
use Rattle.bases.specs.Residues as S
use Rattle.bases.specs.Residues.{Res}

module _ (m : ℕ) (low : 2 ≤ m) where
  infixl 60 ◌⊕◌
  infixl 70 ◌⊗◌
  open S.res_ops m low use {add as ◌⊕◌, mul as ◌⊗◌, neg as ⊖}

  abbrev res : ℕ → Res m
  res = S.res m low

  pub res_path : (x y : Res m) → x.0 ≡ y.0 → x ≡ y
  res_path x y e = Σ_prop_path (λ n. le_prop) e

  -- numbers with one remainder mean one residue
  pub res_same : (j k : ℕ) → j % m ≡ k % m → res j ≡ res k
  res_same j k e = res_path (res j) (res k) e

  pub res_of : (x : Res m) → res x.0 ≡ x
  res_of x = res_path (res x.0) x (mod-eq_of_lt x.1)

  -- the remainder of a sum is the sum of the remainders, and so for products
  pub res_add : (j k : ℕ) → res (j + k) ≡ res j ⊕ res k
  res_add j k = res_same (j + k) (j % m + k % m) (add-mod j k m)

  pub res_mul : (j k : ℕ) → res (j * k) ≡ res j ⊗ res k
  res_mul j k = res_same (j * k) (j % m * (k % m)) (mul-mod j k m)

  add_assoc : (x y z : Res m) → (x ⊕ y) ⊕ z ≡ x ⊕ (y ⊕ z)
  add_assoc x y z =
      res_same ((x.0 + y.0) % m + z.0) (x.0 + (y.0 + z.0) % m)
      (mod-add-mod (x.0 + y.0) m z.0 ∙ ap (λ t. t % m) (Nat.add_assoc x.0 y.0 z.0) ∙ sym (add-mod-mod x.0 (y.0 + z.0) m))

  add-zero : (x : Res m) → x ⊕ res 0 ≡ x
  add-zero x = res_same (x.0 + 0 % m) x.0 (add-mod-mod x.0 0 m ∙ ap (λ t. t % m) (Nat.add-zero x.0)) ∙ res_of x

  add-neg : (x : Res m) → x ⊕ ⊖ x ≡ res 0
  add-neg x =
      let e : x.0 + (m - x.0) ≡ m = omega (arith, x.1) in
      let positive : 0 < m = omega arith in
      res_same (x.0 + (m - x.0) % m) 0 (add-mod-mod x.0 (m - x.0) m ∙ ap (λ t. t % m) e ∙ mod_self m ∙ sym (mod-eq_of_lt positive))

  mul_assoc : (x y z : Res m) → (x ⊗ y) ⊗ z ≡ x ⊗ (y ⊗ z)
  mul_assoc x y z =
      res_same ((x.0 * y.0) % m * z.0) (x.0 * ((y.0 * z.0) % m))
      (mul-mod_first (x.0 * y.0) z.0 m ∙ ap (λ t. t % m) (Nat.mul_assoc x.0 y.0 z.0) ∙ sym (mul-mod_second x.0 (y.0 * z.0) m))

  mul-one : (x : Res m) → x ⊗ res 1 ≡ x
  mul-one x = res_same (x.0 * (1 % m)) x.0 (mul-mod_second x.0 1 m ∙ ap (λ t. t % m) (Nat.mul-one x.0)) ∙ res_of x

  mul-add : (x y z : Res m) → x ⊗ (y ⊕ z) ≡ x ⊗ y ⊕ x ⊗ z
  mul-add x y z =
      res_same (x.0 * ((y.0 + z.0) % m)) (x.0 * y.0 + x.0 * z.0)
      (mul-mod_second x.0 (y.0 + z.0) m ∙ ap (λ t. t % m) (Nat.mul-add x.0 y.0 z.0))
      ∙ res_add (x.0 * y.0) (x.0 * z.0)

  pub res_laws : Laws (S.res_ops m low)
  res_laws = record {
    add_assoc = add_assoc;
    add_comm = λ x y. ap res (Nat.add_comm x.0 y.0);
    add-zero = add-zero;
    add-neg = add-neg;
    mul_assoc = mul_assoc;
    mul_comm = λ x y. ap res (Nat.mul_comm x.0 y.0);
    mul-one = mul-one;
    mul-add = mul-add;
  }

  -- n times one is the remainder of n
  pub res_multiple : (n : ℕ) → multiple (S.res_ops m low) n ≡ res n
  res_multiple zero = refl
  res_multiple (suc n) = ap (λ x. res 1 ⊕ x) (res_multiple n) ∙ sym (res_add 1 n) ∙ (let e : 1 + n ≡ suc n = omega arith in ap res e)

  pub number_multiple : (n : ℕ) → n < m → (multiple (S.res_ops m low) n).0 ≡ n
  number_multiple n p = ap (λ x. x.0) (res_multiple n) ∙ mod-eq_of_lt p

  -- equal residues of numbers below m are of equal numbers
  res_injective : (j k : ℕ) → j < m → k < m → res j ≡ res k → j ≡ k
  res_injective j k p q e = sym (mod-eq_of_lt p) ∙ ap (λ x. x.0) e ∙ mod-eq_of_lt q

  pub residues_lawful : Lawful (S.residues m low)
  residues_lawful = record {
    ring = res_laws;
    one_not_zero = λ e. let z : ◌≡◌ {A = ℕ} 1 0 = res_injective 1 0 low (omega arith) e in omega arith;
    list_element = λ x. (x.0, refl, x.1);
    element_list = λ l h. ((h.0, h.2), sym h.1);
    list_injective = λ x y e. res_path x y (cc);
    list_size = λ x. refl;
    limit_two = low;
    entries_differ = λ j k p q e. res_injective j k p q (sym (res_multiple j) ∙ e ∙ res_multiple k);
  }
