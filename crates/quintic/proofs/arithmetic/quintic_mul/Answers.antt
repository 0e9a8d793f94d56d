use Rattle.std.proofs.Common.{[], ◌∷◌, ◌++◌}
use Rattle.algebra.specs.Ring.{dot}
use Rattle.algebra.specs.Expr.{var, ◌⊠◌, exprs, same, among}
use Rattle.extensions.specs.Tuples.{entries}
use Rattle.extensions.specs.Schoolbook.{binomial}
use Rattle.extensions.proofs.Tuples.{vars, solves}
use Rattle.quintic.specs.Quintuples.{quintuple}
use Rattle.quintic.proofs.arithmetic.quintic_mul.Goals as goal

pub returns : goal.returns
unfolding same
returns g c =
    let m = g.S.System.mean in
    let o = g.S.System.sys.ops in
    let env = among o (entries 5 (quintuple m c.args.a.now) ++ entries 5 (quintuple m c.args.b.now) ++ m c.args.w.now ∷ []) in
    simp (c.dot_product_2.ensures, c.dot_product_4-w_coeff_0.ensures, c.dot_product_3.ensures, c.dot_product_3-w_coeff_1.ensures, c.dot_product_4.ensures, c.dot_product_2-w_coeff_2.ensures, c.dot_product_5.ensures, c.mul-b4_w.ensures, c.dot_product_5-2.ensures)
    (solves o g.met.S.System.lawful.ring env 5 (
      dot exprs (var 0 ∷ dot exprs (var 1 ∷ var 2 ∷ var 3 ∷ var 4 ∷ []) (var 9 ∷ var 8 ∷ var 7 ∷ var 6 ∷ []) ∷ []) (var 5 ∷ var 10 ∷ []),
      (
        dot exprs (var 0 ∷ var 1 ∷ dot exprs (var 2 ∷ var 3 ∷ var 4 ∷ []) (var 9 ∷ var 8 ∷ var 7 ∷ []) ∷ []) (var 6 ∷ var 5 ∷ var 10 ∷ []),
        (
          dot exprs (var 0 ∷ var 1 ∷ var 2 ∷ dot exprs (var 3 ∷ var 4 ∷ []) (var 9 ∷ var 8 ∷ []) ∷ []) (var 7 ∷ var 6 ∷ var 5 ∷ var 10 ∷ []),
          (
            dot exprs (var 0 ∷ var 1 ∷ var 2 ∷ var 3 ∷ var 4 ∷ []) (var 8 ∷ var 7 ∷ var 6 ∷ var 5 ∷ (var 9 ⊠ var 10) ∷ []),
            (
              dot exprs (var 0 ∷ var 1 ∷ var 2 ∷ var 3 ∷ var 4 ∷ []) (var 9 ∷ var 8 ∷ var 7 ∷ var 6 ∷ var 5 ∷ []),
              tt,
            ),
          ),
        ),
      ),
    )
    (binomial 5 exprs (var 10) (vars 5 0) (vars 5 5)) tt)
