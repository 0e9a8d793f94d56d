-- What five coefficients mean, and their conjugates.
use Rattle.algebra.specs.Ring.{Ops}
use Rattle.extensions.specs.Conjugates.{repeated, root_frobenius_map}
use Rattle.extensions.specs.Schoolbook.{binomial}
use Rattle.extensions.specs.Tuples.{Tuple}
use Rattle.quintic.specs.declared.quintuple.Quintuple.{Quintuple}

-- the tuple of what the coefficients mean, lowest power first
abbrev pub quintuple : {S E : Type 0} → (S → E) → Quintuple S → Tuple 5 E
quintuple mean p = (mean p.c0, (mean p.c1, (mean p.c2, (mean p.c3, (mean p.c4, tt)))))

-- the product of the conjugates of an element but itself, φ(a) φ²(a) φ³(a) φ⁴(a): with t = φ(a φ(a)) it is t φ²(t)
abbrev pub other_conjugates_of : {A : Type 0} → Ops A → A → A → Tuple 5 A → Tuple 5 A
other_conjugates_of o w z a =
    let φ = root_frobenius_map 5 o z in
    let t = φ (binomial 5 o w a (φ a)) in
    binomial 5 o w t (repeated φ 2 t)
