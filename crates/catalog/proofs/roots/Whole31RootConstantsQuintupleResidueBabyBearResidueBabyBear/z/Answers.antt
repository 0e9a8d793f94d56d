use Rattle.bases.proofs.Held.{residue_path}
use Rattle.catalog.proofs.RootLaws.{baby_bear_root}
use Rattle.catalog.proofs.roots.Whole31RootConstantsQuintupleResidueBabyBearResidueBabyBear.z.Goals as goal

pub returns : goal.returns
returns c = record { value = residue_path c.from.result _ c.from.ensures; root = rw c.from.ensures baby_bear_root }
