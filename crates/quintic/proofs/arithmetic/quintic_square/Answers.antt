use Rattle.std.proofs.Common.{[], ◌∷◌, ◌++◌}
use Rattle.algebra.specs.Ring.{dot}
use Rattle.algebra.specs.Expr.{var, ◌⊞◌, ◌⊠◌, exprs, same, among}
use Rattle.extensions.specs.Tuples.{entries}
use Rattle.extensions.specs.Schoolbook.{binomial}
use Rattle.extensions.proofs.Tuples.{vars, solves}
use Rattle.quintic.specs.Quintuples.{quintuple}
use Rattle.quintic.proofs.arithmetic.quintic_square.Goals as goal

pub returns : goal.returns
unfolding same
returns g c =
    let m = g.S.System.mean in
    let o = g.S.System.sys.ops in
    let env = among o (entries 5 (quintuple m c.args.a.now) ++ m c.args.w.now ∷ []) in
    simp (c.dot_product_3.ensures, c.dot_product_3-2.ensures, c.dot_product_3-3.ensures, c.dot_product_3-4.ensures, c.dot_product_3-5.ensures, c.add-two_a0.ensures, c.add-two_a1.ensures, c.add-two_a2.ensures, c.add-two_a3.ensures, c.mul-w_a3.ensures, c.mul-w_a4.ensures)
    (solves o g.met.S.System.lawful.ring env 5 (
      dot exprs (var 0 ∷ (var 4 ⊠ var 5) ∷ (var 3 ⊠ var 5) ∷ []) (var 0 ∷ (var 1 ⊞ var 1) ∷ (var 2 ⊞ var 2) ∷ []),
      (
        dot exprs ((var 3 ⊠ var 5) ∷ (var 0 ⊞ var 0) ∷ (var 4 ⊠ var 5) ∷ []) (var 3 ∷ var 1 ∷ (var 2 ⊞ var 2) ∷ []),
        (
          dot exprs (var 1 ∷ (var 0 ⊞ var 0) ∷ (var 4 ⊠ var 5) ∷ []) (var 1 ∷ var 2 ∷ (var 3 ⊞ var 3) ∷ []),
          (
            dot exprs ((var 4 ⊠ var 5) ∷ (var 0 ⊞ var 0) ∷ (var 1 ⊞ var 1) ∷ []) (var 4 ∷ var 3 ∷ var 2 ∷ []),
            (
              dot exprs (var 2 ∷ (var 0 ⊞ var 0) ∷ (var 1 ⊞ var 1) ∷ []) (var 2 ∷ var 4 ∷ var 3 ∷ []),
              tt,
            ),
          ),
        ),
      ),
    )
    (binomial 5 exprs (var 5) (vars 5 0) (vars 5 0)) tt)
