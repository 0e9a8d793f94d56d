-- Extensions of number systems. An element is a tuple of elements of the system below; only the product differs from extension to extension.
use Rattle.std.specs.Prelude.{◌≡◌, ℕ, zero, suc, ◌*◌, List, [], ◌++◌}
use Rattle.algebra.specs.Ring.{Ops}
use Rattle.numbers.specs.Systems.{Sys}
use Rattle.extensions.specs.Tuples.{Tuple, each, both, fill}
use Rattle.extensions.specs.Schoolbook.{binomial, trinomial}

-- zero, one, sums and negatives go coefficient by coefficient, one having zeros above power 0
abbrev pub extend : {A : Type 0} → (d : ℕ) → Ops A → (Tuple (suc d) A → Tuple (suc d) A → Tuple (suc d) A) → Ops (Tuple (suc d) A)
extend d o mul = record {
  zero = fill (suc d) o.zero;
  one = (o.one, fill d o.zero);
  add = both (suc d) o.add;
  neg = each (suc d) o.neg;
  mul = mul;
}

-- the lists of the coefficients, joined
abbrev pub joined : {A : Type 0} → (n : ℕ) → (A → List ℕ) → Tuple n A → List ℕ
joined zero list t = []
joined (suc n) list t = list t.0 ++ joined n list t.1

-- a list is n parts in a row, each with the property
abbrev pub Parts : (n : ℕ) → (List ℕ → Type 0) → List ℕ → Type 0
Parts zero P l = l ≡ []
Parts (suc n) P l = (h : List ℕ) × (t : List ℕ) × (l ≡ h ++ t) × P h × Parts n P t

-- the extension of degree d + 1 of a system, by its product
abbrev pub extension : (d : ℕ) (B : Sys) → (Tuple (suc d) B.Elem → Tuple (suc d) B.Elem → Tuple (suc d) B.Elem) → Sys
extension d B mul = record {
  Elem = Tuple (suc d) B.Elem;
  ops = extend d B.ops mul;
  list = joined (suc d) B.list;
  size = suc d * B.size;
  IsElement = Parts (suc d) B.IsElement;
  limit = B.limit;
}

-- the extension of degree d + 1 by a root of X^(d + 1) - w
abbrev pub binomial_extension : (d : ℕ) (B : Sys) → B.Elem → Sys
binomial_extension d B w = extension d B (binomial (suc d) B.ops w)

-- the extension of degree 5 by a root of X^5 + X² - 1
abbrev pub trinomial_extension : Sys → Sys
trinomial_extension B = extension 4 B (trinomial B.ops)
