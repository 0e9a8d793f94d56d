use Rattle.std.proofs.Common.{suc, ap, ◌∙◌}
use Rattle.extensions.specs.Tuples.{each, fill}
use Rattle.extensions.proofs.Natural.{each-fill}
use Rattle.extensions.proofs.vectors.vector_zero.Goals as goal

pub returns : goal.returns
returns g c =
    let m = g.S.System.mean in
    let n = suc g.V.Coefficients.d in
    ap (each n m) c.fill.ensures ∙ each-fill m n c.zero.result ∙ ap (fill n) c.zero.ensures
