use Rattle.std.proofs.Common.{ap}
use Rattle.octic.specs.Octuples.{octuple}
use Rattle.octic.proofs.Coefficients.{coefficients_by_two_sums}
use Rattle.octic.proofs.arithmetic.compute_coefficient_1.Goals as goal

pub returns : goal.returns
returns g c =
    let s = g.S.System in
    simp (c.dot_product_3.ensures, c.dot_product_6-w_coeff.ensures)
    (ap (λ t. t.1.0)
    (coefficients_by_two_sums s.sys.ops g.met.S.System.lawful.ring (s.mean c.args.w.now) (octuple s.mean c.args.a.now) (octuple s.mean c.args.b.now)))
