use Rattle.algebra.proofs.Solver.{solve}
use Rattle.algebra.proofs.solver_is_sound.Goals as goal

pub returns : goal.returns
returns g c = solve
