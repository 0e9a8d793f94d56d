-- What a pair of coefficients means, and its norm.
use Rattle.algebra.specs.Ring.{Ops, sub}
use Rattle.extensions.specs.Tuples.{Tuple}
use Rattle.quadratic.specs.declared.pair.Pair.{Pair}

-- the tuple of what the coefficients mean, lowest power first
abbrev pub pair : {S E : Type 0} → (S → E) → Pair S → Tuple 2 E
pair mean p = (mean p.c0, (mean p.c1, tt))

-- the norm of a0 + a1 X modulo X² - w: the product with the conjugate a0 - a1 X, which is a0² - w a1²
abbrev pub norm : {A : Type 0} → Ops A → A → Tuple 2 A → A
norm o w a = sub o (o.mul a.0 a.0) (o.mul w (o.mul a.1.0 a.1.0))
