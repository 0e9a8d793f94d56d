-- The extended Euclidean algorithm: what each turn keeps.
use Rattle.std.proofs.Common.{◌≡◌, ℕ, ◌+◌, ◌-◌, ◌*◌, ◌/◌, ◌%◌, ◌≤◌, [], ◌∷◌, sym, refl, ap, ◌∙◌, subst}
use Prim.Native.Nat.{◌∣◌}
use native.Mathlib.Nat.{div-add-mod, dvd-mod_iff, dvd_refl, dvd-zero, dvd-mul_right_of_dvd, eq-one_of_dvd-one}
use Rattle.algebra.specs.Ring.{Ops, Laws, sub}
use Rattle.algebra.specs.Expr.{var, 𝟏, ◌⊞◌, ⊟, ◌⊠◌, same, among}
use Rattle.algebra.proofs.Solver.{solve_by}
use Rattle.bases.specs.Residues as S
use Rattle.bases.specs.Residues.{Res}
use Rattle.bases.specs.ResiduesLemmas as P
use Rattle.bases.proofs.Remainders.{reduced_sub}

-- each common divisor of the two remainders divides both numbers
abbrev pub Common : ℕ → ℕ → ℕ → ℕ → Type 0
Common a m r0 r1 = (d : ℕ) → d ∣ r0 → d ∣ r1 → (d ∣ a) × (d ∣ m)

pub common_start : (a m : ℕ) → Common a m m (a % m)
common_start a m d p q = ((dvd-mod_iff d p).0 q, p)

pub common_step : (a m r0 r1 : ℕ) → Common a m r0 r1 → Common a m r1 (r0 % r1)
common_step a m r0 r1 h d p q = h d ((dvd-mod_iff d p).0 q) p

-- where the last remainder is not 1, no number is an inverse of a
pub no_inverse : (a m r0 r1 : ℕ) → r1 ≡ 0 → (r0 ≡ 1 → ⊥) → Common a m r0 r1 → (x : ℕ) → (a * x) % m ≡ 1 → ⊥
no_inverse a m r0 r1 zero more common x e =
    let c = common r0 (dvd_refl r0) (subst (λ r. r0 ∣ r) (sym zero) (dvd-zero r0)) in
    let d : r0 ∣ (a * x) % m = (dvd-mod_iff r0 c.1).1 (dvd-mul_right_of_dvd r0 c.0 x) in
    more (eq-one_of_dvd-one (subst (λ n. r0 ∣ n) e d))

-- a t0 = (a t1) q + r gives a (t0 − q t1) = r
ring_step : {A : Type 0} (o : Ops A) → Laws o → (a t0 t1 q r : A)
    → o.mul a t0 ≡ o.add (o.mul (o.mul a t1) q) r → o.mul a (sub o t0 (o.mul q t1)) ≡ r
unfolding same
ring_step o L a t0 t1 q r h =
    let a' = var 0 in let t0' = var 1 in let t1' = var 2 in let q' = var 3 in let r' = var 4 in
    solve_by o L (among o (a ∷ t0 ∷ t1 ∷ q ∷ r ∷ [])) (a' ⊠ t0') ((a' ⊠ t1') ⊠ q' ⊞ r') 𝟏 (a' ⊠ (t0' ⊞ ⊟ (q' ⊠ t1'))) r' h tt

module _ (m : ℕ) (low : 2 ≤ m) where
  infixl 60 ◌⊕◌
  infixl 70 ◌⊗◌
  open S.res_ops m low use {add as ◌⊕◌, mul as ◌⊗◌}

  abbrev res : ℕ → Res m
  res = S.res m low

  -- a t0 = r0 and a t1 = r1 modulo m give a t2 = r0 mod r1, for t2 = t0 − q t1
  pub euclid_step : (a t0 t1 r0 r1 : ℕ) → (a * t0) % m ≡ r0 % m → (a * t1) % m ≡ r1 % m
      → (a * ((t0 + (m - (r0 / r1 * t1) % m)) % m)) % m ≡ (r0 % r1) % m
  euclid_step a t0 t1 r0 r1 e0 e1 =
      let q = r0 / r1 in
      let r2 = r0 % r1 in
      let t2 = (t0 + (m - (q * t1) % m)) % m in
      let f0 : res a ⊗ res t0 ≡ res r0 = sym (P.res_mul m low a t0) ∙ P.res_same m low (a * t0) r0 e0 in
      let f1 : res a ⊗ res t1 ≡ res r1 = sym (P.res_mul m low a t1) ∙ P.res_same m low (a * t1) r1 e1 in
      let f2 : res r0 ≡ res r1 ⊗ res q ⊕ res r2 =
      ap res (sym (div-add-mod r0 r1)) ∙ P.res_add m low (r1 * q) r2 ∙ ap (λ x. x ⊕ res r2) (P.res_mul m low r1 q) in
      let f3 : res t2 ≡ sub (S.res_ops m low) (res t0) (res q ⊗ res t1) =
      reduced_sub m low m refl t0 (q * t1) ∙ ap (λ x. sub (S.res_ops m low) (res t0) x) (P.res_mul m low q t1) in
      let step = ring_step (S.res_ops m low) (P.res_laws m low) (res a) (res t0) (res t1) (res q) (res r2)
      (f0 ∙ f2 ∙ ap (λ x. x ⊗ res q ⊕ res r2) (sym f1)) in
      let all : res (a * t2) ≡ res r2 = P.res_mul m low a t2 ∙ ap (λ x. res a ⊗ x) f3 ∙ step in
      ap (λ x. x.0) all
