-- The reduction of nine coefficients by X^5 = 1 - X².
use Rattle.algebra.specs.Ring.{Ops, sub}
use Rattle.extensions.specs.Tuples.{Tuple}

abbrev pub reduced : {A : Type 0} → Ops A → (c0 c1 c2 c3 c4 c5 c6 c7 c8 : A) → Tuple 5 A
reduced o c0 c1 c2 c3 c4 c5 c6 c7 c8 = (
  sub o (o.add c0 c5) c8,
  (o.add c1 c6, (o.add (o.add (sub o c2 c5) c7) c8, (o.add (sub o c3 c6) c8, (sub o c4 c7, tt)))),
)
