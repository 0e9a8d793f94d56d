use Rattle.algebra.proofs.Units as U
use Rattle.algebra.proofs.unit_laws.Goals as goal

pub returns : goal.returns
returns g c = U.unit_laws_hold
