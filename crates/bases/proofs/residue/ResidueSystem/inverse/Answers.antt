use Rattle.std.proofs.Common.{◌∙◌}
use Rattle.bases.proofs.Remainders.{inverts, no_inverse}
use Rattle.bases.proofs.residue.ResidueSystem.inverse.Goals as goal

pub returns-in_err-t : goal.returns-in_err-t
returns-in_err-t g c =
    let M = g.M.Modulus in
    rw c.from_residual.ensures
    (no_inverse M.MODULUS M.bounds.low c.from.result (c.from.ensures ∙ c.MODULUS.ensures) c.args.self.now.value (rw c.from-2.ensures at c.in_err-t.ensures))

pub returns : goal.returns
returns g c =
    let M = g.M.Modulus in
    inverts M.MODULUS M.bounds.low c.from.result (c.from.ensures ∙ c.MODULUS.ensures) c.args.self.now.value c.held.result.value
    (cc (c.held.ensures, c.from-2.ensures, c.in_ok-t.ensures.1))
