use Rattle.std.proofs.Common.{◌∙◌}
use Rattle.bases.proofs.Remainders.{reduced_mul}
use Rattle.bases.proofs.residue.ResidueSystem.mul.Goals as goal

pub returns : goal.returns
returns g c =
    let M = g.M.Modulus in
    let meant = reduced_mul M.MODULUS M.bounds.low c.from-m.result (c.from-m.ensures ∙ c.MODULUS.ensures) c.args.self.now.value c.args.other.now.value in
    cc (c.held.ensures, c.from.ensures, c.from-2.ensures, meant)
