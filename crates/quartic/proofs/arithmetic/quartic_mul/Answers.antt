use Rattle.std.proofs.Common.{[], ◌∷◌, ◌++◌}
use Rattle.algebra.specs.Ring.{dot}
use Rattle.algebra.specs.Expr.{var, ◌⊠◌, exprs, same, among}
use Rattle.extensions.specs.Tuples.{entries}
use Rattle.extensions.specs.Schoolbook.{binomial}
use Rattle.extensions.proofs.Tuples.{vars, solves}
use Rattle.quartic.specs.Quadruples.{quadruple}
use Rattle.quartic.proofs.arithmetic.quartic_mul.Goals as goal

pub returns : goal.returns
unfolding same
returns g c =
    let m = g.S.System.mean in
    let o = g.S.System.sys.ops in
    let env = among o (entries 4 (quadruple m c.args.a.now) ++ entries 4 (quadruple m c.args.b.now) ++ m c.args.w.now ∷ []) in
    simp (c.dot_product_2.ensures, c.dot_product_3-w_coeff_0.ensures, c.dot_product_3.ensures, c.dot_product_2-w_coeff_1.ensures, c.dot_product_4.ensures, c.mul-b3_w.ensures, c.dot_product_4-2.ensures)
    (solves o g.met.S.System.lawful.ring env 4 (
      dot exprs (var 0 ∷ dot exprs (var 1 ∷ var 2 ∷ var 3 ∷ []) (var 7 ∷ var 6 ∷ var 5 ∷ []) ∷ []) (var 4 ∷ var 8 ∷ []),
      (
        dot exprs (var 0 ∷ var 1 ∷ dot exprs (var 2 ∷ var 3 ∷ []) (var 7 ∷ var 6 ∷ []) ∷ []) (var 5 ∷ var 4 ∷ var 8 ∷ []),
        (
          dot exprs (var 0 ∷ var 1 ∷ var 2 ∷ var 3 ∷ []) (var 6 ∷ var 5 ∷ var 4 ∷ (var 7 ⊠ var 8) ∷ []),
          (dot exprs (var 0 ∷ var 1 ∷ var 2 ∷ var 3 ∷ []) (var 7 ∷ var 6 ∷ var 5 ∷ var 4 ∷ []), tt),
        ),
      ),
    )
    (binomial 4 exprs (var 8) (vars 4 0) (vars 4 4)) tt)
