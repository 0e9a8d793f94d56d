use Rattle.std.proofs.Common.{ap, ◌∙◌}
use Rattle.extensions.specs.Tuples.{each, fill}
use Rattle.extensions.proofs.Natural.{each-fill}
use Rattle.extensions.proofs.Written.{put_first}
use Rattle.extensions.proofs.vectors.vector_from_base.Goals as goal

pub returns : goal.returns
returns g c =
    let m = g.S.System.mean in
    let v = g.V.Coefficients in
    put_first m g.S.System.sys.ops.zero v.d (v.tuple c.fill-res.result) (v.tuple c.set_coefficient.new.self) c.args.x c.set_coefficient.ensures
    ∙ ap (λ t. (m c.args.x, each v.d m t.1)) c.fill-res.ensures
    ∙ (λ i. (m c.args.x, (each-fill m v.d c.zero.result ∙ ap (fill v.d) c.zero.ensures) i))
