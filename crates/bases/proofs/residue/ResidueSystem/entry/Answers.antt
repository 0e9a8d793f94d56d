use Rattle.std.proofs.Common.{rules}
use Rattle.bases.specs.ResiduesLemmas.{res_multiple}
use Rattle.bases.proofs.residue.ResidueSystem.entry.Goals as goal

pub returns : goal.returns
returns g c = search (rules, res_multiple g.M.Modulus.MODULUS g.M.Modulus.bounds.low c.args.n)
