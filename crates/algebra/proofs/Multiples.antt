-- Multiples of one: n times one and m times one, added and multiplied.
use mathlib.Core.Path.{◌≡◌, sym, ◌∙◌, ap}
use Prim.Native.Nat as N
use Prim.Native.Nat.{ℕ, suc, ◌+◌, ◌*◌}
use native.Mathlib.Nat as Nat
use Rattle.algebra.specs.Ring.{Ops, Laws, multiple}
use Rattle.algebra.proofs.Laws as R

module _ {A : Type 0} (o : Ops A) (L : Laws o) where
  infixl 60 ◌⊕◌
  infixl 70 ◌⊗◌
  open o use {add as ◌⊕◌, mul as ◌⊗◌, one as 𝟙}
  open L use {add_assoc, add_comm}

  pub multiple-add : (m n : ℕ) → multiple o (m + n) ≡ multiple o m ⊕ multiple o n
  multiple-add N.zero n = ap (multiple o) (Nat.zero-add n) ∙ sym (R.zero-add o L (multiple o n))
  multiple-add (suc m) n =
      ap (multiple o) (Nat.suc-add m n) ∙ ap (λ z. 𝟙 ⊕ z) (multiple-add m n) ∙ sym (add_assoc 𝟙 (multiple o m) (multiple o n))

  pub multiple-mul : (m n : ℕ) → multiple o (m * n) ≡ multiple o m ⊗ multiple o n
  multiple-mul N.zero n = ap (multiple o) (Nat.zero-mul n) ∙ sym (R.zero-mul o L (multiple o n))
  multiple-mul (suc m) n =
      ap (multiple o) (Nat.suc-mul m n) ∙ multiple-add (m * n) n ∙ ap (λ z. z ⊕ multiple o n) (multiple-mul m n)
      ∙ add_comm (multiple o m ⊗ multiple o n) (multiple o n) ∙ ap (λ z. z ⊕ multiple o m ⊗ multiple o n) (sym (R.one-mul o L (multiple o n)))
      ∙ sym (R.add-mul o L 𝟙 (multiple o m) (multiple o n))
