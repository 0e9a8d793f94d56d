-- Rows by computing: elements are what their lists say, and an inverse is the only one.
use Rattle.std.proofs.Common.{◌≡◌, ℕ, List, Some, None, Option, sym, ap, ◌∙◌, ap₂}
use Rattle.algebra.proofs.Laws.{zero-mul}
use Rattle.algebra.proofs.Units.{inverse_unique}
use Rattle.numbers.specs.Systems.{Sys, Lawful}
use Rattle.figures.specs.Rows.{ProductOf, InverseOf, Shows, Product, Inverse, Refused}

module _ (s : Sys) (lawful : Lawful s) where
  pub product_row : (X Y : s.Elem) (m : List ℕ) → s.list (s.ops.mul X Y) ≡ m → Product s (s.list X) (s.list Y) m
  product_row X Y m e x y p q = ap₂ (λ a b. s.list (s.ops.mul a b)) (lawful.list_injective x X p) (lawful.list_injective y Y q) ∙ e

  pub inverse_row : (X Y : s.Elem) → s.list (s.ops.mul X Y) ≡ s.list s.ops.one → Inverse s (s.list X) (s.list Y)
  inverse_row X Y e x y p q =
      ap₂ s.ops.mul (lawful.list_injective x X p) (lawful.list_injective y Y q) ∙ lawful.list_injective (s.ops.mul X Y) s.ops.one e

  -- an element that some other times is zero has no inverse
  pub refused_row : (X Y : s.Elem) → s.list (s.ops.mul Y X) ≡ s.list s.ops.zero → (s.list Y ≡ s.list s.ops.zero → ⊥) → Refused s (s.list X)
  refused_row X Y e other x p b i =
      let o = s.ops in
      let L = lawful.ring in
      let X·b : o.mul X b ≡ o.one = ap (λ a. o.mul a b) (sym (lawful.list_injective x X p)) ∙ i in
      other
      (ap s.list
      (sym (L.mul-one Y) ∙ ap (o.mul Y) (sym X·b) ∙ sym (L.mul_assoc Y X b)
      ∙ ap (λ a. o.mul a b) (lawful.list_injective (o.mul Y X) o.zero e) ∙ zero-mul o L b))

  module _ {V : Type 0} (mean : V → s.Elem) where
    pub product_shown : (X Y : s.Elem) (m : List ℕ) → Product s (s.list X) (s.list Y) m → (o : Option V) → ProductOf s mean (s.list X) (s.list Y) o → Shows s mean m o
    product_shown X Y m row (Some v) h = ap s.list (h X Y (λ i. s.list X) (λ i. s.list Y)) ∙ row X Y (λ i. s.list X) (λ i. s.list Y)
    product_shown X Y m row None h = h X Y (λ i. s.list X) (λ i. s.list Y)

    pub inverse_shown : (X Y : s.Elem) → Inverse s (s.list X) (s.list Y) → (o : Option V) → InverseOf s mean (s.list X) o → Shows s mean (s.list Y) o
    inverse_shown X Y row (Some v) h =
        ap s.list (inverse_unique s.ops lawful.ring X (mean v) Y (h X (λ i. s.list X)) (row X Y (λ i. s.list X) (λ i. s.list Y)))
    inverse_shown X Y row None h = h X (λ i. s.list X) Y (row X Y (λ i. s.list X) (λ i. s.list Y))

    pub refused_shown : (X : s.Elem) → Refused s (s.list X) → (o : Option V) → InverseOf s mean (s.list X) o → o ≡ None
    refused_shown X row (Some v) h = absurd (row X (λ i. s.list X) (mean v) (h X (λ i. s.list X)))
    refused_shown X row None h = λ i. None
