use Rattle.std.proofs.Common.{ap, ◌∙◌}
use Rattle.cubic.specs.Triples.{triple, norm}
use Rattle.cubic.proofs.Norm.{inverse_is_by_norm, norm_inverse}
use Rattle.cubic.proofs.arithmetic.cubic_inv.Goals as goal

pub returns-in_err-scalar : goal.returns-in_err-scalar
returns-in_err-scalar g c =
    let s = g.S.System in
    let o = g.S.System.sys.ops in
    let w = s.mean c.args.w.now in
    let a = triple s.mean c.args.a.now in
    rw c.from_residual.ensures
    (λ b e. c.in_err-scalar.ensures (norm o w b)
    (ap (λ n. o.mul n (norm o w b)) c.cubic_norm.ensures ∙ norm_inverse o g.met.S.System.lawful.ring w a b e))

pub returns : goal.returns
returns g c =
    let s = g.S.System in
    let o = g.S.System.sys.ops in
    let w = s.mean c.args.w.now in
    let a = triple s.mean c.args.a.now in
    let n = s.mean c.in_ok-scalar.scalar in
    simp (c.mul-2.ensures, c.mul-4.ensures, c.mul-6.ensures, c.sub.ensures, c.sub-2.ensures, c.sub-3.ensures, c.square-a0_square.ensures, c.square-a1_square.ensures, c.mul.ensures, c.mul-3.ensures, c.mul-5.ensures, c.mul-a2_w.ensures, c.mul-a0_a1.ensures)
    (inverse_is_by_norm o g.met.S.System.lawful.ring w a n (rw⁻¹ c.cubic_norm.ensures c.in_ok-scalar.ensures))
