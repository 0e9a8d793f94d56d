use Rattle.std.proofs.Common.{[], ◌∷◌, ◌++◌}
use Rattle.algebra.specs.Ring.{dot}
use Rattle.algebra.specs.Expr.{var, ◌⊠◌, exprs, same, among}
use Rattle.extensions.specs.Tuples.{entries}
use Rattle.extensions.specs.Schoolbook.{trinomial}
use Rattle.extensions.proofs.Tuples.{vars, solves}
use Rattle.quintic.specs.Quintuples.{quintuple}
use Rattle.trinomial.specs.Reduce.{reduced}
use Rattle.trinomial.proofs.arithmetic.trinomial_quintic_mul.Goals as goal

pub returns : goal.returns
unfolding same
returns g c =
    let m = g.S.System.mean in
    let o = g.S.System.sys.ops in
    let env = among o (entries 5 (quintuple m c.args.a.now) ++ entries 5 (quintuple m c.args.b.now)) in
    simp (c.reduce.ensures, c.mul-c0.ensures, c.dot_product_2-c1.ensures, c.dot_product_3-c2.ensures, c.dot_product_4-c3.ensures, c.dot_product_5-c4.ensures, c.dot_product_4-c5.ensures, c.dot_product_3-c6.ensures, c.dot_product_2-c7.ensures, c.mul-c8.ensures)
    (solves o g.met.S.System.lawful.ring env 5 (reduced exprs
    (var 0 ⊠ var 5)
    (dot exprs (var 0 ∷ var 1 ∷ []) (var 6 ∷ var 5 ∷ []))
    (dot exprs (var 0 ∷ var 1 ∷ var 2 ∷ []) (var 7 ∷ var 6 ∷ var 5 ∷ []))
    (dot exprs (var 0 ∷ var 1 ∷ var 2 ∷ var 3 ∷ []) (var 8 ∷ var 7 ∷ var 6 ∷ var 5 ∷ []))
    (dot exprs (var 0 ∷ var 1 ∷ var 2 ∷ var 3 ∷ var 4 ∷ []) (var 9 ∷ var 8 ∷ var 7 ∷ var 6 ∷ var 5 ∷ []))
    (dot exprs (var 1 ∷ var 2 ∷ var 3 ∷ var 4 ∷ []) (var 9 ∷ var 8 ∷ var 7 ∷ var 6 ∷ []))
    (dot exprs (var 2 ∷ var 3 ∷ var 4 ∷ []) (var 9 ∷ var 8 ∷ var 7 ∷ []))
    (dot exprs (var 3 ∷ var 4 ∷ []) (var 9 ∷ var 8 ∷ []))
    (var 4 ⊠ var 9))
    (trinomial exprs (vars 5 0) (vars 5 5)) tt)
