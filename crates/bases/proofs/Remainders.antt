-- What the code computes on the numbers that residues hold. `d` is the modulus as the code has it.
use Rattle.std.proofs.Common.{◌≡◌, ℕ, ◌+◌, ◌-◌, ◌*◌, ◌%◌, ◌≤◌, T, eqb, [], ◌∷◌, sym, ap, ◌∙◌, subst, ap₂, mod-eq_of_lt, eqb→eq}
use lib.Dec.{eqb_refl}
use native.Mathlib.Nat.{mod-mod}
use Rattle.std.proofs.lemmas.Nat.{mul-mod_first}
use Rattle.algebra.specs.Ring.{Ops, Laws, sub, total, dot}
use Rattle.algebra.specs.Units.{Inverts, NoInverse}
use Rattle.algebra.specs.Expr.{var, 𝟎, ◌⊞◌, same, among}
use Rattle.algebra.proofs.Solver.{solve}
use Rattle.bases.specs.Residues as S
use Rattle.bases.specs.Residues.{Res}
use Rattle.bases.specs.ResiduesLemmas as P

-- four summands, from the left
sum_of_four : {A : Type 0} (o : Ops A) → Laws o → (p q r s : A) → o.add (o.add (o.add p q) r) s ≡ total o (p ∷ q ∷ r ∷ s ∷ [])
unfolding same
sum_of_four o L p q r s =
    solve o L (among o (p ∷ q ∷ r ∷ s ∷ [])) (var 0 ⊞ var 1 ⊞ var 2 ⊞ var 3) (var 0 ⊞ (var 1 ⊞ (var 2 ⊞ (var 3 ⊞ 𝟎)))) tt

module _ (m : ℕ) (low : 2 ≤ m) (d : ℕ) (is : d ≡ m) where
  infixl 60 ◌⊕◌
  infixl 70 ◌⊗◌
  open S.res_ops m low use {add as ◌⊕◌, mul as ◌⊗◌, neg as ⊖}

  abbrev res : ℕ → Res m
  res = S.res m low

  -- a remainder means what the number means
  pub reduced : (k : ℕ) → res (k % d) ≡ res k
  reduced k = P.res_same m low (k % d) k (ap (λ t. (k % t) % m) is ∙ mod-mod k m)

  pub reduced_add : (j k : ℕ) → res ((j + k) % d) ≡ res j ⊕ res k
  reduced_add j k = reduced (j + k) ∙ P.res_add m low j k

  pub reduced_mul : (j k : ℕ) → res ((j * k) % d) ≡ res j ⊗ res k
  reduced_mul j k = reduced (j * k) ∙ P.res_mul m low j k

  pub reduced_neg : (k : ℕ) → res (d - k % d) ≡ ⊖ (res k)
  reduced_neg k = ap (λ t. res (t - k % t)) is

  pub reduced_sub : (j k : ℕ) → res ((j + (d - k % d)) % d) ≡ sub (S.res_ops m low) (res j) (res k)
  reduced_sub j k = reduced_add j (d - k % d) ∙ ap (λ x. res j ⊕ x) (reduced_neg k)

  pub reduced_dot : (a0 b0 a1 b1 a2 b2 a3 b3 : ℕ) → res (((a0 * b0) % d + (a1 * b1) % d + (a2 * b2) % d + (a3 * b3) % d) % d)
      ≡ dot (S.res_ops m low) (res a0 ∷ res a1 ∷ res a2 ∷ res a3 ∷ []) (res b0 ∷ res b1 ∷ res b2 ∷ res b3 ∷ [])
  reduced_dot a0 b0 a1 b1 a2 b2 a3 b3 =
      let p0 = (a0 * b0) % d in
      let p1 = (a1 * b1) % d in
      let p2 = (a2 * b2) % d in
      let p3 = (a3 * b3) % d in
      reduced_add (p0 + p1 + p2) p3
      ∙ ap₂ ◌⊕◌
      (P.res_add m low (p0 + p1) p2 ∙ ap₂ ◌⊕◌ (P.res_add m low p0 p1 ∙ ap₂ ◌⊕◌ (reduced_mul a0 b0) (reduced_mul a1 b1)) (reduced_mul a2 b2))
      (reduced_mul a3 b3)
      ∙ sum_of_four (S.res_ops m low) (P.res_laws m low) (res a0 ⊗ res b0) (res a1 ⊗ res b1) (res a2 ⊗ res b2) (res a3 ⊗ res b3)

  pub same_remainder : (j k : ℕ) → T (eqb (j % d) (k % d)) → res j ≡ res k
  same_remainder j k t = P.res_same m low j k (subst (λ u. j % u ≡ k % u) is (eqb→eq (j % d) (k % d) t))

  pub remainder_same : (j k : ℕ) → res j ≡ res k → T (eqb (j % d) (k % d))
  remainder_same j k p =
      subst (λ u. T (eqb (j % u) (k % u))) (sym is) (subst (λ v. T (eqb (j % m) v)) (ap (λ x. x.0) p) (eqb_refl (j % m)))

  pub inverts : (a k : ℕ) → (a * k) % d ≡ 1 → Inverts (S.res_ops m low) (res a) (res k)
  inverts a k h = sym (reduced_mul a k) ∙ ap res h

  pub no_inverse : (a : ℕ) → ((j : ℕ) → (a * j) % d ≡ 1 → ⊥) → NoInverse (S.res_ops m low) (res a)
  no_inverse a none x p =
      none x.0 (subst (λ u. (a * x.0) % u ≡ 1) (sym is) (sym (mul-mod_first a x.0 m) ∙ ap (λ y. y.0) p ∙ mod-eq_of_lt low))
