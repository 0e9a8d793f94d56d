-- What the elements of a list come to, folded from the left.
use Rattle.std.proofs.Common.{◌≡◌, List, [], ◌∷◌, ◌++◌, map, sym, ap, ◌∙◌}
use mathlib.Core.List.{map-append}
use Rattle.algebra.specs.Ring.{Ops, Laws, total, product}
use Rattle.algebra.proofs.Laws as R
use Rattle.algebra.proofs.Powers.{total-append}

module _ {S A : Type 0} (mean : S → A) (o : Ops A) (L : Laws o) where
  product-append : (xs ys : List A) → product o (xs ++ ys) ≡ o.mul (product o xs) (product o ys)
  product-append [] ys = sym (R.one-mul o L (product o ys))
  product-append (x ∷ xs) ys = ap (o.mul x) (product-append xs ys) ∙ sym (L.mul_assoc x (product o xs) (product o ys))

  pub total_push : (xs : List S) (x : S) → total o (map mean (xs ++ (x ∷ []))) ≡ o.add (total o (map mean xs)) (mean x)
  total_push xs x =
      ap (total o) (map-append mean xs (x ∷ [])) ∙ total-append o L (map mean xs) (mean x ∷ [])
      ∙ ap (o.add (total o (map mean xs))) (L.add-zero (mean x))

  pub product_push : (xs : List S) (x : S) → product o (map mean (xs ++ (x ∷ []))) ≡ o.mul (product o (map mean xs)) (mean x)
  product_push xs x =
      ap (product o) (map-append mean xs (x ∷ [])) ∙ product-append (map mean xs) (mean x ∷ [])
      ∙ ap (o.mul (product o (map mean xs))) (L.mul-one (mean x))
