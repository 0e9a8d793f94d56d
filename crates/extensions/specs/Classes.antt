-- The residue classes of polynomials modulo a polynomial: what the products of the extensions are.
use Rattle.std.specs.Prelude.{◌≡◌, ℕ, ◌+◌, ◌-◌, List, [], ◌∷◌, ◌++◌, replicate, slice_index_or}
use Rattle.algebra.specs.Ring.{Ops}
use Rattle.extensions.specs.Tuples.{Tuple, entries, tabulate}
use Rattle.extensions.specs.Schoolbook.{coefficient}

-- X^(d + 1) - w, by its coefficients
abbrev pub binomial_modulus : {A : Type 0} → (d : ℕ) → Ops A → A → List A
binomial_modulus d o w = o.neg w ∷ (replicate d o.zero ++ (o.one ∷ []))

-- X^5 + X² - 1
abbrev pub trinomial_modulus : {A : Type 0} → Ops A → List A
trinomial_modulus o = o.neg o.one ∷ o.zero ∷ o.one ∷ o.zero ∷ o.zero ∷ o.one ∷ []

-- r is the residue class of the product of a and b: the polynomial product is r and a multiple of the modulus, at every power up to the highest.
pub record ResidueClass {A : Type 0} (n : ℕ) (o : Ops A) (modulus : List A) (a b r : Tuple n A) : Type 0 where
  pub quotient : List A
  pub equal :
      tabulate (n + n - 1) (coefficient o (entries n a) (entries n b))
      ≡ tabulate (n + n - 1) (λ k. o.add (slice_index_or (entries n r) k o.zero) (coefficient o modulus quotient k))
