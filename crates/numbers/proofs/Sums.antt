-- Sums of lists, joined, and filled up with products of zero.
use Rattle.std.proofs.Common.{◌≡◌, ℕ, suc, List, ◌++◌, replicate, sym, refl, ap, ◌∙◌, ap₂}
use Prim.Native.Nat as N
use Rattle.algebra.specs.Ring.{Ops, Laws, total}
use Rattle.algebra.proofs.Laws.{mul-zero}
use Rattle.algebra.proofs.Powers.{total-append}

module _ {A : Type 0} (o : Ops A) (L : Laws o) where
  total_zeros : (k : ℕ) → total o (replicate k (o.mul o.zero o.zero)) ≡ o.zero
  total_zeros N.zero = refl
  total_zeros (suc k) = ap₂ o.add (mul-zero o L o.zero) (total_zeros k) ∙ L.add-zero o.zero

  -- k products of zero with zero at the end add nothing
  pub total_filled : (ps : List A) (k : ℕ) → total o (ps ++ replicate k (o.mul o.zero o.zero)) ≡ total o ps
  total_filled ps k = total-append o L ps _ ∙ ap (o.add (total o ps)) (total_zeros k) ∙ L.add-zero (total o ps)

  -- a sum of two totals is the total of both lists
  pub total-joined : (r s t : A) (ps qs : List A) → r ≡ o.add s t → s ≡ total o ps → t ≡ total o qs → r ≡ total o (ps ++ qs)
  total-joined r s t ps qs r-is s-is t-is = r-is ∙ ap₂ o.add s-is t-is ∙ sym (total-append o L ps qs)

  -- a place that holds zero twice adds nothing
  pub none_more : o.add (o.mul o.zero o.zero) o.zero ≡ o.zero
  none_more = cc (mul-zero o L o.zero, L.add-zero o.zero)
