-- What eight coefficients mean, their even and odd powers, and the norm.
use Rattle.algebra.specs.Ring.{Ops}
use Rattle.extensions.specs.Tuples.{Tuple}
use Rattle.extensions.specs.Schoolbook.{binomial}
use Rattle.extensions.specs.Extensions.{extend}
use Rattle.quadratic.specs.Pairs.{norm}
use Rattle.octic.specs.declared.octuple.Octuple.{Octuple}

-- the tuple of what the coefficients mean, lowest power first
abbrev pub octuple : {S E : Type 0} → (S → E) → Octuple S → Tuple 8 E
octuple mean q = (mean q.c0, (mean q.c1, (mean q.c2, (mean q.c3, (mean q.c4, (mean q.c5, (mean q.c6, (mean q.c7, tt))))))))

-- the even powers and the odd ones: with Y = X², a0 + a1 X + .. + a7 X⁷ = (a0 + a2 Y + a4 Y² + a6 Y³) + (a1 + a3 Y + a5 Y² + a7 Y³) X
abbrev pub split : {A : Type 0} → Tuple 8 A → Tuple 2 (Tuple 4 A)
split a = ((a.0, (a.1.1.0, (a.1.1.1.1.0, (a.1.1.1.1.1.1.0, tt)))), ((a.1.0, (a.1.1.1.0, (a.1.1.1.1.1.0, (a.1.1.1.1.1.1.1.0, tt)))), tt))

-- the norm of a0 + a1 X + .. + a7 X⁷ modulo X⁸ - w, with Y = X² and Y⁴ = w: it is (a0 + a2 Y + a4 Y² + a6 Y³)² - Y (a1 + a3 Y + a5 Y² + a7 Y³)², an element
-- b0 + b1 Y + b2 Y² + b3 Y³
abbrev pub octic_norm_of : {A : Type 0} → Ops A → A → Tuple 8 A → Tuple 4 A
octic_norm_of o w a = norm (extend 3 o (binomial 4 o w)) (o.zero, (o.one, (o.zero, (o.zero, tt)))) (split a)
