use Rattle.bases.proofs.Held.{residue_path}
use Rattle.catalog.proofs.RootLaws.{eleven_root}
use Rattle.catalog.proofs.roots.Whole2RootConstantsQuintupleResidueElevenResidueEleven.z.Goals as goal

pub returns : goal.returns
returns c = record { value = residue_path c.from.result _ c.from.ensures; root = rw c.from.ensures eleven_root }
