use Rattle.std.proofs.Common.{suc, ◌∙◌}
use Rattle.extensions.specs.Tuples.{each}
use Rattle.extensions.proofs.Tuples.{both_of_each}
use Rattle.extensions.proofs.element.ElementSystem.sub.Goals as goal

pub returns : goal.returns
returns g c =
    let s = g.S.System in
    let n = suc g.V.Coefficients.d in
    let a = each n s.mean (g.V.Coefficients.tuple c.args.self.now.value) in
    let b = each n s.mean (g.V.Coefficients.tuple c.args.other.now.value) in
    c.vector_sub.ensures ∙ both_of_each s.sys.ops.add s.sys.ops.neg n a b
