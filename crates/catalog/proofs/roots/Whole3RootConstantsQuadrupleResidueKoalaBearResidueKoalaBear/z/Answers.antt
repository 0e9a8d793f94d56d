use Rattle.bases.proofs.Held.{residue_path}
use Rattle.catalog.proofs.RootLaws.{koala_bear_quartic_root}
use Rattle.catalog.proofs.roots.Whole3RootConstantsQuadrupleResidueKoalaBearResidueKoalaBear.z.Goals as goal

pub returns : goal.returns
returns c = record { value = residue_path c.from.result _ c.from.ensures; root = rw c.from.ensures koala_bear_quartic_root }
