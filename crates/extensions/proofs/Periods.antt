-- A map with a period, applied again and again.
use Rattle.std.proofs.Common.{◌≡◌, ℕ, suc, ◌+◌, ◌*◌, ◌/◌, ◌%◌, sym, ap, ◌∙◌}
use Prim.Native.Nat as N
use native.Mathlib.Nat as Nat
use Rattle.extensions.specs.Conjugates.{repeated}

module _ {E : Type 0} (f : E → E) where
  repeated-add : (m n : ℕ) (x : E) → repeated f (m + n) x ≡ repeated f m (repeated f n x)
  repeated-add N.zero n x = ap (λ k. repeated f k x) (Nat.zero-add n)
  repeated-add (suc m) n x = ap (λ k. repeated f k x) (Nat.suc-add m n) ∙ ap f (repeated-add m n x)

  module _ (n : ℕ) (period : (x : E) → repeated f n x ≡ x) where
    repeated-multiple : (q : ℕ) (x : E) → repeated f (q * n) x ≡ x
    repeated-multiple N.zero x = ap (λ k. repeated f k x) (Nat.zero-mul n)
    repeated-multiple (suc q) x = ap (λ k. repeated f k x) (Nat.suc-mul q n) ∙ repeated-add (q * n) n x ∙ ap (repeated f (q * n)) (period x) ∙ repeated-multiple q x

    -- as many applications as the count leaves over the period
    pub repeated_modulo : (k : ℕ) (x : E) → repeated f (k % n) x ≡ repeated f k x
    repeated_modulo k x =
        sym (repeated-multiple (k / n) (repeated f (k % n) x)) ∙ sym (repeated-add (k / n * n) (k % n) x) ∙ ap (λ m. repeated f m x) (Nat.div-add-mod' k n)
