-- The roots of one keep the root law, by computing: the power, and an inverse of each difference from one.
use Rattle.std.proofs.Common.{◌≡◌, ℕ, suc, ◌+◌, ◌<◌, List, [], ◌∷◌, map, length, refl, subst, arith, lit≤}
use Prim.Native.Nat as N
use Rattle.algebra.specs.Ring.{sub, power}
use Rattle.algebra.specs.Units.{Inverts, IsUnit}
use Rattle.numbers.specs.Systems.{Sys, Lawful}
use Rattle.bases.specs.Residues.{res, res_ops}
use Rattle.extensions.specs.Conjugates.{RootLaw}
use Rattle.catalog.specs.Catalog.{koala_bear, mersenne_31, baby_bear, eleven, system_4}
use Rattle.catalog.proofs.NineLawful.{koala_bear_lawful, mersenne_31_lawful, baby_bear_lawful, eleven_lawful, lawful_4}

module _ (S : Sys) (L : Lawful S) (z : S.Elem) where
  -- z^n - 1
  abbrev apart_from_one : ℕ → S.Elem
  apart_from_one n = sub S.ops (power S.ops z n) S.ops.one

  -- the list has inverses of z^k - 1, z^(k+1) - 1, ..: the products with them have the list of one
  abbrev Inverses : ℕ → List S.Elem → Type 0
  Inverses k [] = Unit {0}
  Inverses k (u ∷ us) = (S.list (S.ops.mul (apart_from_one k) u) ≡ S.list S.ops.one) × Inverses (suc k) us

  inverse_at : (k : ℕ) (us : List S.Elem) → Inverses k us → (i : ℕ) → i < length us → IsUnit S.ops (apart_from_one (k + i))
  inverse_at k [] h i lt = absurd (omega arith)
  inverse_at k (u ∷ us) h N.zero lt =
      let first : k ≡ k + 0 = omega arith in
      (u, subst (λ n. Inverts S.ops (apart_from_one n) u) first (L.list_injective _ _ h.0))
  inverse_at k (u ∷ us) h (suc i) lt =
      let next : suc k + i ≡ k + suc i = omega arith in
      subst (λ n. IsUnit S.ops (apart_from_one n)) next (inverse_at (suc k) us h.1 i (omega arith))

  root_law : (us : List S.Elem) → S.list (power S.ops z (suc (length us))) ≡ S.list S.ops.one → Inverses 1 us → RootLaw S.ops (suc (length us)) z
  root_law us e h = record {
    root = L.list_injective _ _ e;
    apart = apart;
  }
    where
      apart : (i : ℕ) → 0 < i → i < suc (length us) → IsUnit S.ops (apart_from_one i)
      apart N.zero low high = absurd (omega arith)
      apart (suc i) low high =
          let next : 1 + i ≡ suc i = omega arith in
          subst (λ n. IsUnit S.ops (apart_from_one n)) next (inverse_at 1 us h i (omega arith))

pub koala_bear_quartic_root : RootLaw (res_ops 2130706433 (lit≤ tt)) 4 (res 2130706433 (lit≤ tt) 2113994754)
koala_bear_quartic_root =
    let k = res 2130706433 (lit≤ tt) in
    root_law koala_bear koala_bear_lawful (k 2113994754) (map k (8355839 ∷ 1065353216 ∷ 2122350593 ∷ [])) refl (refl, (refl, (refl, tt)))

pub koala_bear_octic_root : RootLaw (res_ops 2130706433 (lit≤ tt)) 8 (res 2130706433 (lit≤ tt) 1748172362)
koala_bear_octic_root =
    let k = res 2130706433 (lit≤ tt) in
    root_law koala_bear koala_bear_lawful (k 1748172362) (map k (1069475251 ∷ 8355839 ∷ 1052763572 ∷ 1065353216 ∷ 1077942860 ∷ 2122350593 ∷ 1061231181 ∷ [])) refl
    (refl, (refl, (refl, (refl, (refl, (refl, (refl, tt)))))))

pub complex_root : RootLaw (res_ops 2147483647 (lit≤ tt)) 2 (res 2147483647 (lit≤ tt) 2147483646)
complex_root =
    let m = res 2147483647 (lit≤ tt) in
    root_law mersenne_31 mersenne_31_lawful (m 2147483646) (m 1073741823 ∷ []) refl (refl, tt)

pub baby_bear_root : RootLaw (res_ops 2013265921 (lit≤ tt)) 5 (res 2013265921 (lit≤ tt) 645581151)
baby_bear_root =
    let b = res 2013265921 (lit≤ tt) in
    root_law baby_bear baby_bear_lawful (b 645581151) (map b (1929423917 ∷ 1592284928 ∷ 420980992 ∷ 83842003 ∷ [])) refl (refl, (refl, (refl, (refl, tt))))

pub eleven_root : RootLaw (res_ops 11 (lit≤ tt)) 5 (res 11 (lit≤ tt) 4)
eleven_root =
    let e = res 11 (lit≤ tt) in
    root_law eleven eleven_lawful (e 4) (map e (4 ∷ 3 ∷ 7 ∷ 6 ∷ [])) refl (refl, (refl, (refl, (refl, tt))))

-- a real number of system 4
abbrev pub real : ℕ → system_4.Elem
real n = (res 2147483647 (lit≤ tt) n, (res 2147483647 (lit≤ tt) 0, tt))

pub complex_cubic_root : RootLaw system_4.ops 3 (real 634005911)
complex_cubic_root = root_law system_4 lawful_4 (real 634005911) (real 504492578 ∷ real 1642991068 ∷ []) refl (refl, (refl, tt))
