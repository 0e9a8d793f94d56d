use Rattle.std.proofs.Common.{◌≡◌, ap, ◌∙◌, subst}
use Rattle.extensions.specs.Schoolbook.{binomial}
use Rattle.quadratic.specs.Pairs.{pair}
use Rattle.quartic.specs.Quadruples.{quadruple, quartic_norm_of}
use Rattle.quartic.proofs.Tower.{quartic_inverse, quartic_norm_inverse}
use Rattle.quartic.proofs.arithmetic.quartic_inv.Goals as goal

pub returns-in_err-inv : goal.returns-in_err-inv
returns-in_err-inv g c =
    let s = g.S.System in
    let o = g.S.System.sys.ops in
    let w = s.mean c.args.w.now in
    let a = quadruple s.mean c.args.a.now in
    rw c.from_residual.ensures
    (λ b e. c.in_err-inv.ensures (quartic_norm_of o w b)
    (ap (λ n. binomial 2 o w n (quartic_norm_of o w b)) c.quartic_norm.ensures ∙ quartic_norm_inverse o g.met.S.System.lawful.ring w a b e))

pub returns : goal.returns
returns g c =
    let s = g.S.System in
    let o = g.S.System.sys.ops in
    let w = s.mean c.args.w.now in
    let a = quadruple s.mean c.args.a.now in
    let n = pair s.mean c.in_ok-inv.inv in
    let evens = c.quadratic_mul-out_evn.ensures in
    let odds = c.quadratic_mul-out_odd.ensures in
    simp (c.neg.ensures, c.neg-2.ensures, ap (λ t. t.0) evens, ap (λ t. t.1.0) evens, ap (λ t. t.0) odds, ap (λ t. t.1.0) odds)
    (quartic_inverse o g.met.S.System.lawful.ring w a n (subst (λ t. binomial 2 o w t n ≡ (o.one, (o.zero, tt))) c.quartic_norm.ensures c.in_ok-inv.ensures))
