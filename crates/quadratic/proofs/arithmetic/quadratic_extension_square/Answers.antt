use Rattle.std.proofs.Common.{[], ◌∷◌, ◌++◌}
use Rattle.algebra.specs.Ring.{dot}
use Rattle.algebra.specs.Expr.{var, ◌⊞◌, ◌⊠◌, exprs, same, among}
use Rattle.extensions.specs.Tuples.{entries}
use Rattle.extensions.specs.Schoolbook.{binomial}
use Rattle.extensions.proofs.Tuples.{vars, solves}
use Rattle.quadratic.specs.Pairs.{pair}
use Rattle.quadratic.proofs.arithmetic.quadratic_extension_square.Goals as goal

pub returns : goal.returns
unfolding same
returns g c =
    let m = g.S.System.mean in
    let o = g.S.System.sys.ops in
    let env = among o (entries 2 (pair m c.args.a.now) ++ m c.args.w.now ∷ []) in
    simp (c.dot_product_2.ensures, c.mul-a1_w.ensures, c.mul.ensures, c.add-two_a1.ensures)
    (solves o g.met.S.System.lawful.ring env 2
    (dot exprs (var 0 ∷ var 1 ∷ []) (var 0 ∷ (var 1 ⊠ var 2) ∷ []), (var 0 ⊠ (var 1 ⊞ var 1), tt))
    (binomial 2 exprs (var 2) (vars 2 0) (vars 2 0)) tt)
