-- What follows for systems that extend others.
use Rattle.std.proofs.Common.{◌≡◌, ℕ, suc, sym, ap, ◌∙◌, ap₂}
use Rattle.algebra.specs.Units.{Inverts}
use Rattle.numbers.specs.Systems.{Sys}
use Rattle.extensions.specs.Tuples.{Tuple}
use Rattle.extensions.specs.Extensions.{extend}
use Rattle.extensions.specs.Layers.{Extends}

-- elements with equal tuples are equal
pub tuple_injective : (d : ℕ) (B : Sys) (times : Tuple (suc d) B.Elem → Tuple (suc d) B.Elem → Tuple (suc d) B.Elem) (s : Sys)
    (e : Extends d B times s) (x y : s.Elem) → e.tuple x ≡ e.tuple y → x ≡ y
tuple_injective d B times s e x y p = sym (e.element_tuple x) ∙ ap e.element p ∙ e.element_tuple y

-- Values of a type by what they mean and by what their coefficients mean.
module _ (d : ℕ) (B : Sys) (times : Tuple (suc d) B.Elem → Tuple (suc d) B.Elem → Tuple (suc d) B.Elem) (s : Sys) (e : Extends d B times s)
    {V : Type 0} (mean : V → s.Elem) (means : V → Tuple (suc d) B.Elem) (same : (a : V) → e.tuple (mean a) ≡ means a) where
  pub product_means : (a b r : V) → mean r ≡ s.ops.mul (mean a) (mean b) → means r ≡ times (means a) (means b)
  product_means a b r p = sym (same r) ∙ ap e.tuple p ∙ e.mul (mean a) (mean b) ∙ ap₂ times (same a) (same b)

  -- an inverse by coefficients is one of the system
  pub inverse_means : (a b : V) → Inverts (extend d B.ops times) (means a) (means b) → Inverts s.ops (mean a) (mean b)
  inverse_means a b p = tuple_injective d B times s e _ _ (e.mul (mean a) (mean b) ∙ ap₂ times (same a) (same b) ∙ p ∙ sym e.one)

  pub means_inverse : (a : V) (b : s.Elem) → Inverts s.ops (mean a) b → Inverts (extend d B.ops times) (means a) (e.tuple b)
  means_inverse a b p = ap (λ t. times t (e.tuple b)) (sym (same a)) ∙ sym (e.mul (mean a) b) ∙ ap e.tuple p ∙ e.one
