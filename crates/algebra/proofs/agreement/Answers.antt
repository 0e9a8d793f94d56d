use Rattle.algebra.proofs.Division as G
use Rattle.algebra.proofs.agreement.Goals as goal

pub returns : goal.returns
returns g c = G.agreement
