use Rattle.std.proofs.Common.{sym, ap, ◌∙◌}
use Rattle.algebra.specs.Ring.{power}
use Rattle.extensions.proofs.conjugates.next_power.Goals as goal

pub returns-then-k-eq2 : goal.returns-then-k-eq2
returns-then-k-eq2 g c h =
    let o = g.S.System.sys.ops in
    let z = g.S.System.mean c.args.z.now in
    c.square.ensures ∙ ap (o.mul z) (sym (g.met.S.System.lawful.ring.mul-one z)) ∙ ap (power o z) (sym c.if-k-eq2.true)

pub returns-else-k-eq2 : goal.returns-else-k-eq2
returns-else-k-eq2 g c h =
    c.mul.ensures ∙ g.met.S.System.lawful.ring.mul_comm (g.S.System.mean c.args.before.now) (g.S.System.mean c.args.z.now) ∙ h
