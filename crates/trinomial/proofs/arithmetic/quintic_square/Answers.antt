use Rattle.std.proofs.Common.{[], ◌∷◌}
use Rattle.algebra.specs.Ring.{dot}
use Rattle.algebra.specs.Expr.{var, ◌⊞◌, ◌⊠◌, exprs, same, among}
use Rattle.extensions.specs.Tuples.{entries}
use Rattle.extensions.specs.Schoolbook.{trinomial}
use Rattle.extensions.proofs.Tuples.{vars, solves}
use Rattle.quintic.specs.Quintuples.{quintuple}
use Rattle.trinomial.specs.Reduce.{reduced}
use Rattle.trinomial.proofs.arithmetic.quintic_square.Goals as goal

pub returns : goal.returns
unfolding same
returns g c =
    let m = g.S.System.mean in
    let o = g.S.System.sys.ops in
    let env = among o (entries 5 (quintuple m c.args.a.now)) in
    simp (c.reduce.ensures, c.square-c0.ensures, c.mul-c1.ensures, c.dot_product_2-c2.ensures, c.dot_product_2-c3.ensures, c.dot_product_3-c4.ensures, c.dot_product_2-c5.ensures, c.dot_product_2-c6.ensures, c.mul-c7.ensures, c.square-c8.ensures, c.add-a0_2.ensures, c.add-a1_2.ensures, c.add-a2_2.ensures, c.add-a3_2.ensures)
    (solves o g.met.S.System.lawful.ring env 5 (reduced exprs
    (var 0 ⊠ var 0)
    ((var 0 ⊞ var 0) ⊠ var 1)
    (dot exprs ((var 0 ⊞ var 0) ∷ var 1 ∷ []) (var 2 ∷ var 1 ∷ []))
    (dot exprs ((var 0 ⊞ var 0) ∷ (var 1 ⊞ var 1) ∷ []) (var 3 ∷ var 2 ∷ []))
    (dot exprs ((var 0 ⊞ var 0) ∷ (var 1 ⊞ var 1) ∷ var 2 ∷ []) (var 4 ∷ var 3 ∷ var 2 ∷ []))
    (dot exprs ((var 1 ⊞ var 1) ∷ (var 2 ⊞ var 2) ∷ []) (var 4 ∷ var 3 ∷ []))
    (dot exprs ((var 2 ⊞ var 2) ∷ var 3 ∷ []) (var 4 ∷ var 3 ∷ []))
    ((var 3 ⊞ var 3) ⊠ var 4)
    (var 4 ⊠ var 4))
    (trinomial exprs (vars 5 0) (vars 5 0)) tt)
