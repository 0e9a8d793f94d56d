use Rattle.std.proofs.Common.{[], ◌∷◌, ◌++◌}
use Rattle.algebra.specs.Ring.{dot}
use Rattle.algebra.specs.Expr.{var, ◌⊞◌, ⊟, ◌⊠◌, exprs, same, among}
use Rattle.extensions.specs.Tuples.{entries}
use Rattle.extensions.proofs.Tuples.{vars, solves}
use Rattle.quartic.specs.Quadruples.{quadruple, quartic_norm_of}
use Rattle.quartic.proofs.arithmetic.quartic_norm.Goals as goal

pub returns : goal.returns
unfolding same
returns g c =
    let m = g.S.System.mean in
    let o = g.S.System.sys.ops in
    let env = among o (entries 4 (quadruple m c.args.a.now) ++ m c.args.w.now ∷ []) in
    simp (c.dot_product_3-norm_0.ensures, c.dot_product_3-norm_1.ensures, c.neg-neg_a1.ensures, c.neg-neg_a3.ensures, c.add-two_neg_a1.ensures, c.add-two_a2.ensures, c.mul-a2_w.ensures, c.mul-a3_w.ensures)
    (solves o g.met.S.System.lawful.ring env 2 (
      dot exprs (var 0 ∷ var 2 ∷ (⊟ (var 1) ⊞ ⊟ (var 1)) ∷ []) (var 0 ∷ (var 2 ⊠ var 4) ∷ (var 3 ⊠ var 4) ∷ []),
      (dot exprs (var 0 ∷ var 1 ∷ ⊟ (var 3) ∷ []) ((var 2 ⊞ var 2) ∷ ⊟ (var 1) ∷ (var 3 ⊠ var 4) ∷ []), tt),
    )
    (quartic_norm_of exprs (var 4) (vars 4 0)) tt)
