use Rattle.std.proofs.Common.{[], ◌∷◌, ◌++◌}
use Rattle.algebra.specs.Ring.{dot}
use Rattle.algebra.specs.Expr.{var, ◌⊞◌, ◌⊠◌, exprs, same, among}
use Rattle.extensions.specs.Tuples.{entries}
use Rattle.extensions.specs.Schoolbook.{binomial}
use Rattle.extensions.proofs.Tuples.{vars, solves}
use Rattle.octic.specs.Octuples.{octuple}
use Rattle.octic.proofs.arithmetic.octic_square.Goals as goal

pub returns : goal.returns
unfolding same
returns g c =
    let m = g.S.System.mean in
    let o = g.S.System.sys.ops in
    let env = among o (entries 8 (octuple m c.args.a.now) ++ m c.args.w.now ∷ []) in
    simp (c.dot_product_5.ensures, c.dot_product_4.ensures, c.dot_product_5-2.ensures, c.dot_product_4-2.ensures, c.dot_product_5-3.ensures, c.dot_product_4-3.ensures, c.dot_product_5-4.ensures, c.dot_product_4-4.ensures, c.add-a0_2.ensures, c.add-a1_2.ensures, c.add-a2_2.ensures, c.add-a3_2.ensures, c.add-w_a5_2.ensures, c.add-w_a6_2.ensures, c.add-w_a7_2.ensures, c.mul-w_a4.ensures, c.mul-w_a5.ensures, c.mul-w_a6.ensures, c.mul-w_a7.ensures)
    (solves o g.met.S.System.lawful.ring env 8 (
      dot exprs (var 0 ∷ var 1 ∷ var 2 ∷ var 3 ∷ var 4 ∷ []) (var 0 ∷ (var 7 ⊠ var 8 ⊞ var 7 ⊠ var 8) ∷ (var 6 ⊠ var 8 ⊞ var 6 ⊠ var 8) ∷ (var 5 ⊠ var 8 ⊞ var 5 ⊠ var 8) ∷ (var 4 ⊠ var 8) ∷ []),
      (
        dot exprs ((var 0 ⊞ var 0) ∷ var 2 ∷ var 3 ∷ var 4 ∷ []) (var 1 ∷ (var 7 ⊠ var 8 ⊞ var 7 ⊠ var 8) ∷ (var 6 ⊠ var 8 ⊞ var 6 ⊠ var 8) ∷ (var 5 ⊠ var 8 ⊞ var 5 ⊠ var 8) ∷ []),
        (
          dot exprs ((var 0 ⊞ var 0) ∷ var 1 ∷ var 3 ∷ var 4 ∷ var 5 ∷ []) (var 2 ∷ var 1 ∷ (var 7 ⊠ var 8 ⊞ var 7 ⊠ var 8) ∷ (var 6 ⊠ var 8 ⊞ var 6 ⊠ var 8) ∷ (var 5 ⊠ var 8) ∷ []),
          (
            dot exprs ((var 0 ⊞ var 0) ∷ (var 1 ⊞ var 1) ∷ var 4 ∷ var 5 ∷ []) (var 3 ∷ var 2 ∷ (var 7 ⊠ var 8 ⊞ var 7 ⊠ var 8) ∷ (var 6 ⊠ var 8 ⊞ var 6 ⊠ var 8) ∷ []),
            (
              dot exprs ((var 0 ⊞ var 0) ∷ (var 1 ⊞ var 1) ∷ var 2 ∷ var 5 ∷ var 6 ∷ []) (var 4 ∷ var 3 ∷ var 2 ∷ (var 7 ⊠ var 8 ⊞ var 7 ⊠ var 8) ∷ (var 6 ⊠ var 8) ∷ []),
              (
                dot exprs ((var 0 ⊞ var 0) ∷ (var 1 ⊞ var 1) ∷ (var 2 ⊞ var 2) ∷ var 6 ∷ []) (var 5 ∷ var 4 ∷ var 3 ∷ (var 7 ⊠ var 8 ⊞ var 7 ⊠ var 8) ∷ []),
                (
                  dot exprs ((var 0 ⊞ var 0) ∷ (var 1 ⊞ var 1) ∷ (var 2 ⊞ var 2) ∷ var 3 ∷ var 7 ∷ []) (var 6 ∷ var 5 ∷ var 4 ∷ var 3 ∷ (var 7 ⊠ var 8) ∷ []),
                  (dot exprs ((var 0 ⊞ var 0) ∷ (var 1 ⊞ var 1) ∷ (var 2 ⊞ var 2) ∷ (var 3 ⊞ var 3) ∷ []) (var 7 ∷ var 6 ∷ var 5 ∷ var 4 ∷ []), tt),
                ),
              ),
            ),
          ),
        ),
      ),
    )
    (binomial 8 exprs (var 8) (vars 8 0) (vars 8 0)) tt)
