use Rattle.std.proofs.Common.{sym, ap, ◌∙◌}
use Rattle.algebra.specs.Ring.{sub}
use Rattle.algebra.proofs.Laws.{neg-zero}
use Rattle.extensions.specs.Tuples.{each}
use Rattle.extensions.proofs.Written.{put_first}
use Rattle.extensions.proofs.Tuples.{both-fill}
use Rattle.extensions.proofs.below.sub_base.Goals as goal

pub returns : goal.returns
returns g c =
    let m = g.S.System.mean in
    let o = g.S.System.sys.ops in
    let L = g.met.S.System.lawful.ring in
    let x = g.E.Coefficients in
    let a = x.tuple c.args.a.now in
    put_first m o.zero x.d a (x.tuple c.set_coefficient.new.self) c.sub.result c.set_coefficient.ensures
    ∙ (λ i. (
      (c.sub.ensures ∙ ap (λ t. sub o t (m c.args.x.now)) c.coefficient.ensures) i,
      sym (both-fill (sub o) o.zero (λ y. ap (o.add y) (neg-zero o L) ∙ L.add-zero y) x.d (each x.d m a.1)) i,
    ))
