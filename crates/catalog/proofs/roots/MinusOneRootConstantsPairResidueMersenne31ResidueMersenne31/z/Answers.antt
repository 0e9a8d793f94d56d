use Rattle.bases.proofs.Held.{residue_path}
use Rattle.catalog.proofs.RootLaws.{complex_root}
use Rattle.catalog.proofs.roots.MinusOneRootConstantsPairResidueMersenne31ResidueMersenne31.z.Goals as goal

pub returns : goal.returns
returns c = record { value = residue_path c.from.result _ c.from.ensures; root = rw c.from.ensures complex_root }
