use Rattle.algebra.proofs.Powers.{counting}
use Rattle.algebra.proofs.counting_laws.Goals as goal

pub returns : goal.returns
returns g c = counting
