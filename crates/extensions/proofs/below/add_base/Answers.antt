use Rattle.std.proofs.Common.{sym, ap, ◌∙◌}
use Rattle.extensions.specs.Tuples.{each}
use Rattle.extensions.proofs.Written.{put_first}
use Rattle.extensions.proofs.Tuples.{both-fill}
use Rattle.extensions.proofs.below.add_base.Goals as goal

pub returns : goal.returns
returns g c =
    let m = g.S.System.mean in
    let o = g.S.System.sys.ops in
    let x = g.E.Coefficients in
    let a = x.tuple c.args.a.now in
    put_first m o.zero x.d a (x.tuple c.set_coefficient.new.self) c.add.result c.set_coefficient.ensures
    ∙ (λ i. (
      (c.add.ensures ∙ ap (λ t. o.add t (m c.args.x.now)) c.coefficient.ensures) i,
      sym (both-fill o.add o.zero g.met.S.System.lawful.ring.add-zero x.d (each x.d m a.1)) i,
    ))
