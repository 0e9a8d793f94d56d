use Rattle.algebra.specs.Expr.{𝟏, same}
use Rattle.algebra.proofs.Solver.{consequence}
use Rattle.algebra.proofs.inverse_by_norm.Goals as goal

pub returns : goal.returns
unfolding same
returns g c = consequence _ _ 𝟏 _ _ tt
