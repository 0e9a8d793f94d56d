use Rattle.std.proofs.Common.{[], ◌∷◌, ◌++◌}
use Rattle.algebra.specs.Ring.{dot}
use Rattle.algebra.specs.Expr.{var, ◌⊞◌, exprs, same, among}
use Rattle.extensions.specs.Tuples.{entries}
use Rattle.extensions.specs.Conjugates.{table_frobenius}
use Rattle.extensions.proofs.Tables.{table_conjugation}
use Rattle.extensions.proofs.Tuples.{vars, solves}
use Rattle.quintic.specs.Quintuples.{quintuple}
use Rattle.trinomial.specs.Rows.{rows}
use Rattle.trinomial.proofs.conjugates.trinomial_frobenius.Goals as goal

pub returns : goal.returns
unfolding same
returns g c =
    let m = g.S.System.mean in
    let o = g.S.System.sys.ops in
    let L = g.met.S.System.lawful.ring in
    let t = c.args.t.now in
    let env = among o (entries 5 (quintuple m t.t1) ++ entries 5 (quintuple m t.t2) ++ entries 5 (quintuple m t.t3) ++ entries 5 (quintuple m t.t4) ++ entries 5 (quintuple m c.args.a.now)) in
    record {
      image =
          simp (c.add.ensures, c.dot_product_4-tail.ensures, c.dot_product_4.ensures, c.dot_product_4-2.ensures, c.dot_product_4-3.ensures, c.dot_product_4-4.ensures)
          (solves o L env 5 (
            var 20 ⊞ dot exprs (var 21 ∷ var 22 ∷ var 23 ∷ var 24 ∷ []) (var 0 ∷ var 5 ∷ var 10 ∷ var 15 ∷ []),
            (
              dot exprs (var 21 ∷ var 22 ∷ var 23 ∷ var 24 ∷ []) (var 1 ∷ var 6 ∷ var 11 ∷ var 16 ∷ []),
              (
                dot exprs (var 21 ∷ var 22 ∷ var 23 ∷ var 24 ∷ []) (var 2 ∷ var 7 ∷ var 12 ∷ var 17 ∷ []),
                (
                  dot exprs (var 21 ∷ var 22 ∷ var 23 ∷ var 24 ∷ []) (var 3 ∷ var 8 ∷ var 13 ∷ var 18 ∷ []),
                  (dot exprs (var 21 ∷ var 22 ∷ var 23 ∷ var 24 ∷ []) (var 4 ∷ var 9 ∷ var 14 ∷ var 19 ∷ []), tt),
                ),
              ),
            ),
          )
          (table_frobenius exprs (vars 5 0, (vars 5 5, (vars 5 10, (vars 5 15, tt)))) (vars 5 20)) tt);
      conjugation = λ law. table_conjugation o L (rows m t) law.powers law;
    }
