-- A residue is the number that it holds, and a remainder may be held.
use Rattle.std.proofs.Common.{◌≡◌, ℕ, ◌%◌, ◌^◌, ◌<◌, mod-lt, arith}
use mathlib.Core.HLevel.{is_prop→PathP}
use native.Mathlib.Bridge.{le_prop}
use Rattle.bases.specs.Bounds.{Bounds}
use Rattle.bases.specs.declared.residue.Residue.{Residue}

pub residue_path : {D : Type 0} (x y : Residue D) → x.value ≡ y.value → x ≡ y
residue_path x y e = λ i. record { value = e i; modulus = record {}; small = is_prop→PathP (λ j. e j < 2 ^ 31) (λ j. le_prop) x.small y.small i }

pub remainder_small : (n m : ℕ) → Bounds m → n % m < 2 ^ 31
remainder_small n m b =
    let low = b.low in
    let high = b.high in
    let below : n % m < m = mod-lt n (omega arith) in
    omega (arith, below, high)
