-- What four coefficients mean, their even and odd powers, and the norm.
use Rattle.algebra.specs.Ring.{Ops}
use Rattle.extensions.specs.Tuples.{Tuple}
use Rattle.extensions.specs.Schoolbook.{binomial}
use Rattle.extensions.specs.Extensions.{extend}
use Rattle.quadratic.specs.Pairs.{norm}
use Rattle.quartic.specs.declared.quadruple.Quadruple.{Quadruple}

-- the tuple of what the coefficients mean, lowest power first
abbrev pub quadruple : {S E : Type 0} → (S → E) → Quadruple S → Tuple 4 E
quadruple mean q = (mean q.c0, (mean q.c1, (mean q.c2, (mean q.c3, tt))))

-- the even powers and the odd ones: with Y = X², a0 + a1 X + a2 X² + a3 X³ = (a0 + a2 Y) + (a1 + a3 Y) X
abbrev pub split : {A : Type 0} → Tuple 4 A → Tuple 2 (Tuple 2 A)
split a = ((a.0, (a.1.1.0, tt)), ((a.1.0, (a.1.1.1.0, tt)), tt))

-- the norm of a0 + a1 X + a2 X² + a3 X³ modulo X⁴ - w, with Y = X² and Y² = w: it is (a0 + a2 Y)² - Y (a1 + a3 Y)², an element b0 + b1 Y
abbrev pub quartic_norm_of : {A : Type 0} → Ops A → A → Tuple 4 A → Tuple 2 A
quartic_norm_of o w a = norm (extend 1 o (binomial 2 o w)) (o.zero, (o.one, tt)) (split a)
