use Rattle.algebra.specs.Expr.{same}
use Rattle.algebra.proofs.Solver.{identity}
use Rattle.algebra.proofs.square_of_sum.Goals as goal

pub returns : goal.returns
unfolding same
returns g c = identity _ _ tt
