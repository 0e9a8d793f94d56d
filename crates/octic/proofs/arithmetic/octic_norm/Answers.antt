use Rattle.std.proofs.Common.{sym, ap, ◌∙◌}
use Rattle.algebra.specs.Ring.{sub}
use Rattle.extensions.specs.Tuples.{both}
use Rattle.extensions.specs.Schoolbook.{binomial}
use Rattle.octic.specs.Octuples.{octuple, split}
use Rattle.octic.proofs.Tower.{root_mul}
use Rattle.octic.proofs.arithmetic.octic_norm.Goals as goal

pub returns : goal.returns
returns g c =
    let m = g.S.System.mean in
    let o = g.S.System.sys.ops in
    let w = m c.args.w.now in
    let a = octuple m c.args.a.now in
    let evens = binomial 4 o w (split a).0 (split a).0 in
    let odds = binomial 4 o w (split a).1.0 (split a).1.0 in
    let e = c.quartic_square-evns_sq.ensures ∙ ap (λ t. binomial 4 o w t t) c.halves-evns.ensures.evens in
    let f = c.quartic_square-odds_sq.ensures ∙ ap (λ t. binomial 4 o w t t) c.halves-evns.ensures.odds in
    simp (c.sub.ensures, c.sub-2.ensures, c.sub-3.ensures, c.sub-4.ensures, c.mul-w_odds.ensures, ap (λ t. t.0) e, ap (λ t. t.1.0) e, ap (λ t. t.1.1.0) e, ap (λ t. t.1.1.1.0) e, ap (λ t. t.0) f, ap (λ t. t.1.0) f, ap (λ t. t.1.1.0) f, ap (λ t. t.1.1.1.0) f)
    (ap (both 4 (sub o) evens) (sym (root_mul o g.met.S.System.lawful.ring w odds)))
