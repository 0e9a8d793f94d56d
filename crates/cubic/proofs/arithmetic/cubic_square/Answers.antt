use Rattle.std.proofs.Common.{◌≡◌, [], ◌∷◌, ◌++◌, ◌∙◌}
use Rattle.algebra.specs.Ring.{Ops}
use Rattle.algebra.specs.Expr.{var, exprs, same, among}
use Rattle.extensions.specs.Tuples.{Tuple, entries}
use Rattle.extensions.specs.Schoolbook.{binomial}
use Rattle.extensions.proofs.Tuples.{vars, solves}
use Rattle.cubic.specs.Triples.{triple}
use Rattle.cubic.proofs.arithmetic.cubic_square.Goals as goal

-- the code's formula
abbrev squared : {A : Type 0} → Ops A → A → Tuple 3 A → Tuple 3 A
squared o w a =
    let w-a2 = o.mul a.1.1.0 w in
    let a1-w-a2 = o.mul a.1.0 w-a2 in
    let a0-a1 = o.mul a.0 a.1.0 in
    let a0-a2 = o.mul a.0 a.1.1.0 in (
      o.add (o.mul a.0 a.0) (o.add a1-w-a2 a1-w-a2),
      (
        o.add (o.mul w-a2 a.1.1.0) (o.add a0-a1 a0-a1),
        (o.add (o.mul a.1.0 a.1.0) (o.add a0-a2 a0-a2), tt),
      ),
    )

pub returns : goal.returns
unfolding same
returns g c =
    let m = g.S.System.mean in
    let o = g.S.System.sys.ops in
    let a = triple m c.args.a.now in
    let w = m c.args.w.now in
    let computed : (m c.add-2.result, (m c.add-4.result, (m c.add-6.result, tt))) ≡ squared o w a = cc in
    computed
    ∙ solves o g.met.S.System.lawful.ring (among o (entries 3 a ++ w ∷ [])) 3
    (squared exprs (var 3) (vars 3 0)) (binomial 3 exprs (var 3) (vars 3 0) (vars 3 0)) tt
