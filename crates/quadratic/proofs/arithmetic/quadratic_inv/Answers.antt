use Rattle.std.proofs.Common.{ap, ◌∙◌}
use Rattle.quadratic.specs.Pairs.{pair, norm}
use Rattle.quadratic.proofs.Norm.{inverse_is_by_norm, norm_inverse}
use Rattle.quadratic.proofs.arithmetic.quadratic_inv.Goals as goal

pub returns-in_err-scalar : goal.returns-in_err-scalar
returns-in_err-scalar g c =
    let s = g.S.System in
    let o = g.S.System.sys.ops in
    let w = s.mean c.args.w.now in
    let a = pair s.mean c.args.a.now in
    rw c.from_residual.ensures
    (λ b e. c.in_err-scalar.ensures (norm o w b)
    (ap (λ n. o.mul n (norm o w b)) c.quadratic_norm.ensures ∙ norm_inverse o g.met.S.System.lawful.ring w a b e))

pub returns : goal.returns
returns g c =
    let s = g.S.System in
    let o = g.S.System.sys.ops in
    let w = s.mean c.args.w.now in
    let a = pair s.mean c.args.a.now in
    let n = s.mean c.in_ok-scalar.scalar in
    simp (c.mul.ensures, c.mul-2.ensures, c.neg.ensures)
    (inverse_is_by_norm o g.met.S.System.lawful.ring w a n (rw⁻¹ c.quadratic_norm.ensures c.in_ok-scalar.ensures))
