use Rattle.std.proofs.Common.{[], ◌∷◌}
use Rattle.algebra.specs.Expr.{var, ◌⊞◌, ⊟, exprs, same, among}
use Rattle.extensions.proofs.Tuples.{solves}
use Rattle.trinomial.specs.Reduce.{reduced}
use Rattle.trinomial.proofs.arithmetic.reduce.Goals as goal

pub returns : goal.returns
unfolding same
returns g c =
    let m = g.S.System.mean in
    let o = g.S.System.sys.ops in
    let a = c.args in
    let env = among o (m a.c0 ∷ m a.c1 ∷ m a.c2 ∷ m a.c3 ∷ m a.c4 ∷ m a.c5 ∷ m a.c6 ∷ m a.c7 ∷ m a.c8 ∷ []) in
    simp (c.add.ensures, c.add-2.ensures, c.add-3.ensures, c.add-4.ensures, c.sub.ensures, c.sub-2.ensures, c.sub-3.ensures, c.sub-c5_minus_c8.ensures)
    (solves o g.met.S.System.lawful.ring env 5
    (var 0 ⊞ (var 5 ⊞ ⊟ (var 8)), (var 1 ⊞ var 6, ((var 2 ⊞ ⊟ (var 5 ⊞ ⊟ (var 8))) ⊞ var 7, ((var 3 ⊞ ⊟ (var 6)) ⊞ var 8, (var 4 ⊞ ⊟ (var 7), tt)))))
    (reduced exprs (var 0) (var 1) (var 2) (var 3) (var 4) (var 5) (var 6) (var 7) (var 8)) tt)
