use Rattle.std.proofs.Common.{[], ◌∷◌, ◌++◌}
use Rattle.algebra.specs.Ring.{dot}
use Rattle.algebra.specs.Expr.{var, ◌⊠◌, exprs, same, among}
use Rattle.extensions.specs.Tuples.{entries}
use Rattle.extensions.specs.Schoolbook.{binomial}
use Rattle.extensions.proofs.Tuples.{vars, solves}
use Rattle.quadratic.specs.Pairs.{pair}
use Rattle.quadratic.proofs.arithmetic.quadratic_mul.Goals as goal

pub returns : goal.returns
unfolding same
returns g c =
    let m = g.S.System.mean in
    let o = g.S.System.sys.ops in
    let env = among o (entries 2 (pair m c.args.a.now) ++ entries 2 (pair m c.args.b.now) ++ m c.args.w.now ∷ []) in
    simp (c.dot_product_2.ensures, c.mul-b1_w.ensures, c.dot_product_2-2.ensures)
    (solves o g.met.S.System.lawful.ring env 2
    (dot exprs (var 0 ∷ var 1 ∷ []) (var 2 ∷ (var 3 ⊠ var 4) ∷ []), (dot exprs (var 0 ∷ var 1 ∷ []) (var 3 ∷ var 2 ∷ []), tt))
    (binomial 2 exprs (var 4) (vars 2 0) (vars 2 2)) tt)
