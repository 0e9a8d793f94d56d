use Rattle.std.proofs.Common.{[], ◌∷◌, ◌++◌}
use Rattle.algebra.specs.Ring.{dot}
use Rattle.algebra.specs.Expr.{var, ⊟, ◌⊠◌, exprs, same, among}
use Rattle.algebra.proofs.Solver.{solve}
use Rattle.extensions.specs.Tuples.{entries}
use Rattle.extensions.proofs.Tuples.{vars}
use Rattle.quadratic.specs.Pairs.{pair, norm}
use Rattle.quadratic.proofs.arithmetic.quadratic_norm.Goals as goal

pub returns : goal.returns
unfolding same
returns g c =
    let m = g.S.System.mean in
    let o = g.S.System.sys.ops in
    let env = among o (entries 2 (pair m c.args.a.now) ++ m c.args.w.now ∷ []) in
    simp (c.dot_product_2.ensures, c.neg.ensures, c.mul.ensures)
    (solve o g.met.S.System.lawful.ring env
    (dot exprs (var 0 ∷ ⊟ (var 1) ∷ []) (var 0 ∷ (var 2 ⊠ var 1) ∷ [])) (norm exprs (var 2) (vars 2 0)) tt)
