use Rattle.std.proofs.Common.{suc, ◌∙◌}
use Rattle.extensions.specs.Tuples.{each}
use Rattle.extensions.proofs.Tuples.{both_first}
use Rattle.extensions.proofs.below.scale.Goals as goal

pub returns : goal.returns
returns g c =
    let s = g.S.System in
    let n = suc g.E.Coefficients.d in
    c.combine.ensures ∙ both_first (λ y. s.sys.ops.mul y (s.mean c.args.x.now)) n (each n s.mean (g.E.Coefficients.tuple c.args.a.now))
