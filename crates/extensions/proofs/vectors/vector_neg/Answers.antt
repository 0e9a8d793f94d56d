use Rattle.std.proofs.Common.{suc, ◌∙◌}
use Rattle.extensions.specs.Tuples.{each}
use Rattle.extensions.proofs.Tuples.{both_first}
use Rattle.extensions.proofs.vectors.vector_neg.Goals as goal

pub returns : goal.returns
returns g c =
    let s = g.S.System in
    let n = suc g.V.Coefficients.d in
    c.combine.ensures ∙ both_first s.sys.ops.neg n (each n s.mean (g.V.Coefficients.tuple c.args.a.now))
