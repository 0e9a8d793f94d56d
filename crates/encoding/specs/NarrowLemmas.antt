-- Four bytes hold the numbers of the systems that others are built on, and of their extensions.
use Rattle.std.proofs.Common.{ℕ, suc, List, [], ◌∷◌, ◌++◌, ◌^◌, ◌<◌, true, false, arith, lit<}
use Prim.Native.Nat as N
use Rattle.algebra.specs.Polynomial.{Each}
use Rattle.numbers.specs.Systems.{Sys}
use Rattle.bases.specs.Bits.{bits}
use Rattle.bases.specs.Bounds.{Bounds}
use Rattle.bases.specs.Residues.{residues}
use Rattle.extensions.specs.Tuples.{Tuple}
use Rattle.extensions.specs.Extensions.{joined, extension}
use Rattle.encoding.specs.Bytes.{Narrow}

pub bits_narrow : Narrow bits
bits_narrow true = (lit< tt, tt)
bits_narrow false = (lit< tt, tt)

pub residues_narrow : (m : ℕ) (b : Bounds m) → Narrow (residues m b.low)
residues_narrow m b x =
    let high = b.high in
    let below = x.1 in
    (omega (arith, high, below), tt)

module _ (P : ℕ → Type 0) where
  each_append : (l m : List ℕ) → Each P l → Each P m → Each P (l ++ m)
  each_append [] m h k = k
  each_append (n ∷ l) m h k = (h.0, each_append l m h.1 k)

  each_joined : {A : Type 0} (list : A → List ℕ) → ((x : A) → Each P (list x)) → (n : ℕ) (t : Tuple n A) → Each P (joined n list t)
  each_joined list h N.zero t = tt
  each_joined list h (suc n) t = each_append (list t.0) (joined n list t.1) (h t.0) (each_joined list h n t.1)

pub extension_narrow : (d : ℕ) (B : Sys) (times : Tuple (suc d) B.Elem → Tuple (suc d) B.Elem → Tuple (suc d) B.Elem) → Narrow B → Narrow (extension d B times)
extension_narrow d B times h x = each_joined (λ n. n < 2 ^ 32) B.list h (suc d) x
