use mathlib.Core.Path.{refl}
use Rattle.algebra.specs.Expr.{left}
use Rattle.algebra.proofs.Solver.{identity_explained}
use Rattle.algebra.proofs.karatsuba.Goals as goal

pub returns : goal.returns
unfolding left
returns g c = identity_explained _ _ refl
