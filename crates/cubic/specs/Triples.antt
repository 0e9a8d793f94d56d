-- What a triple of coefficients means, and its norm.
use Rattle.algebra.specs.Ring.{Ops, sub, multiple, power}
use Rattle.extensions.specs.Tuples.{Tuple}
use Rattle.cubic.specs.declared.triple.Triple.{Triple}

-- the tuple of what the coefficients mean, lowest power first
abbrev pub triple : {S E : Type 0} → (S → E) → Triple S → Tuple 3 E
triple mean p = (mean p.c0, (mean p.c1, (mean p.c2, tt)))

-- the norm of a0 + a1 X + a2 X² modulo X³ - w, which is a0³ + w a1³ + w² a2³ - 3 w a0 a1 a2
abbrev pub norm : {A : Type 0} → Ops A → A → Tuple 3 A → A
norm o w a =
    sub o (o.add (o.add (power o a.0 3) (o.mul w (power o a.1.0 3))) (o.mul (power o w 2) (power o a.1.1.0 3)))
    (o.mul (multiple o 3) (o.mul w (o.mul a.0 (o.mul a.1.0 a.1.1.0))))
