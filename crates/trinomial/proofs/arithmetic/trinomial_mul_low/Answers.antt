use Rattle.std.proofs.Common.{[], ◌∷◌, ◌++◌}
use Rattle.algebra.specs.Ring.{dot}
use Rattle.algebra.specs.Expr.{var, ◌⊞◌, ⊟, ◌⊠◌, exprs, same, among}
use Rattle.algebra.proofs.Solver.{solve}
use Rattle.extensions.specs.Tuples.{entries}
use Rattle.extensions.specs.Schoolbook.{trinomial}
use Rattle.extensions.proofs.Tuples.{vars}
use Rattle.quintic.specs.Quintuples.{quintuple}
use Rattle.trinomial.proofs.arithmetic.trinomial_mul_low.Goals as goal

pub returns : goal.returns
unfolding same
returns g c =
    let m = g.S.System.mean in
    let o = g.S.System.sys.ops in
    let env = among o (entries 5 (quintuple m c.args.a.now) ++ entries 5 (quintuple m c.args.b.now)) in
    simp (c.add.ensures, c.mul.ensures, c.sub.ensures, c.dot_product_4-c5.ensures, c.mul-2.ensures)
    (solve o g.met.S.System.lawful.ring env
    (var 0 ⊠ var 5 ⊞ (dot exprs (var 1 ∷ var 2 ∷ var 3 ∷ var 4 ∷ []) (var 9 ∷ var 8 ∷ var 7 ∷ var 6 ∷ []) ⊞ ⊟ (var 4 ⊠ var 9)))
    (trinomial exprs (vars 5 0) (vars 5 5)).0 tt)
