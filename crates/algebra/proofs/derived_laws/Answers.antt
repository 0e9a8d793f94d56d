use Rattle.algebra.proofs.Powers.{derived}
use Rattle.algebra.proofs.derived_laws.Goals as goal

pub returns : goal.returns
returns g c = derived
