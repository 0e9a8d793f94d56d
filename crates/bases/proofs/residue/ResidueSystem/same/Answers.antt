use Rattle.bases.proofs.Remainders.{same_remainder, remainder_same}
use Rattle.bases.proofs.residue.ResidueSystem.same.Goals as goal

pub returns : goal.returns
returns g c =
    let low = g.M.Modulus.bounds.low in
    let d = c.MODULUS-m.result in
    let is = c.MODULUS-m.ensures in
    let j = c.args.self.now.value in
    let k = c.args.other.now.value in
    record { equal = same_remainder g.M.Modulus.MODULUS low d is j k; different = remainder_same g.M.Modulus.MODULUS low d is j k }
