use Rattle.std.proofs.Common.{◌≡◌, ap, ◌∙◌, subst}
use Rattle.extensions.specs.Schoolbook.{binomial}
use Rattle.quartic.specs.Quadruples.{quadruple}
use Rattle.octic.specs.Octuples.{octuple, octic_norm_of}
use Rattle.octic.proofs.Tower.{octic_inverse, octic_norm_inverse}
use Rattle.octic.proofs.arithmetic.octic_inv.Goals as goal

pub returns-in_err-norm_inv : goal.returns-in_err-norm_inv
returns-in_err-norm_inv g c =
    let s = g.S.System in
    let o = g.S.System.sys.ops in
    let w = s.mean c.args.w.now in
    let a = octuple s.mean c.args.a.now in
    rw c.from_residual.ensures
    (λ b e. c.in_err-norm_inv.ensures (octic_norm_of o w b)
    (ap (λ n. binomial 4 o w n (octic_norm_of o w b)) c.octic_norm.ensures ∙ octic_norm_inverse o g.met.S.System.lawful.ring w a b e))

pub returns : goal.returns
returns g c =
    let s = g.S.System in
    let o = g.S.System.sys.ops in
    let w = s.mean c.args.w.now in
    let a = octuple s.mean c.args.a.now in
    let n = quadruple s.mean c.in_ok-norm_inv.norm_inv in
    let evens = c.quartic_mul-out_evn.ensures ∙ ap (λ t. binomial 4 o w t n) c.halves-evns.ensures.evens in
    let odds = c.quartic_mul-out_odd.ensures ∙ ap (λ t. binomial 4 o w t n) c.halves-evns.ensures.odds in
    simp (c.neg.ensures, c.neg-2.ensures, c.neg-3.ensures, c.neg-4.ensures, ap (λ t. t.0) evens, ap (λ t. t.1.0) evens, ap (λ t. t.1.1.0) evens, ap (λ t. t.1.1.1.0) evens, ap (λ t. t.0) odds, ap (λ t. t.1.0) odds, ap (λ t. t.1.1.0) odds, ap (λ t. t.1.1.1.0) odds)
    (octic_inverse o g.met.S.System.lawful.ring w a n (subst (λ t. binomial 4 o w t n ≡ (o.one, (o.zero, (o.zero, (o.zero, tt))))) c.octic_norm.ensures c.in_ok-norm_inv.ensures))
