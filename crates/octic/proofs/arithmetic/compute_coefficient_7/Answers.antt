use Rattle.std.proofs.Common.{[], ◌∷◌, ◌++◌}
use Rattle.algebra.specs.Ring.{dot}
use Rattle.algebra.specs.Expr.{var, exprs, same, among}
use Rattle.algebra.proofs.Solver.{solve}
use Rattle.extensions.specs.Tuples.{entries}
use Rattle.extensions.specs.Schoolbook.{binomial}
use Rattle.extensions.proofs.Tuples.{vars}
use Rattle.octic.specs.Octuples.{octuple}
use Rattle.octic.proofs.arithmetic.compute_coefficient_7.Goals as goal

pub returns : goal.returns
unfolding same
returns g c =
    let m = g.S.System.mean in
    let o = g.S.System.sys.ops in
    let env = among o (entries 8 (octuple m c.args.a.now) ++ entries 8 (octuple m c.args.b.now) ++ m c.args.w.now ∷ []) in
    rw c.dot_product_8.ensures
    (solve o g.met.S.System.lawful.ring env
    (dot exprs (var 0 ∷ var 1 ∷ var 2 ∷ var 3 ∷ var 4 ∷ var 5 ∷ var 6 ∷ var 7 ∷ []) (var 15 ∷ var 14 ∷ var 13 ∷ var 12 ∷ var 11 ∷ var 10 ∷ var 9 ∷ var 8 ∷ []))
    (binomial 8 exprs (var 16) (vars 8 0) (vars 8 8)).1.1.1.1.1.1.1.0 tt)
