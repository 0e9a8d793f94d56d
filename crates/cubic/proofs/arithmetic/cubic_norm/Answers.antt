use Rattle.std.proofs.Common.{◌≡◌, [], ◌∷◌, ◌++◌, ◌∙◌}
use Rattle.algebra.specs.Ring.{Ops, sub}
use Rattle.algebra.specs.Expr.{var, exprs, same, among}
use Rattle.algebra.proofs.Solver.{solve}
use Rattle.extensions.specs.Tuples.{Tuple, entries}
use Rattle.extensions.proofs.Tuples.{vars}
use Rattle.cubic.specs.Triples.{triple, norm}
use Rattle.cubic.proofs.arithmetic.cubic_norm.Goals as goal

-- the code's formula
abbrev scalar : {A : Type 0} → Ops A → A → Tuple 3 A → A
scalar o w a =
    let a2-w = o.mul w a.1.1.0 in
    let t0 = o.mul (o.mul a.0 a.0) a.0 in
    let t1 = o.mul (o.mul w a.1.0) (o.mul a.1.0 a.1.0) in
    let t2 = o.mul (o.mul a2-w a2-w) a.1.1.0 in
    let t3 = o.mul (o.mul (o.add o.one (o.add o.one o.one)) a2-w) (o.mul a.0 a.1.0) in
    sub o (o.add (o.add t0 t1) t2) t3

pub returns : goal.returns
unfolding same
returns g c =
    let m = g.S.System.mean in
    let o = g.S.System.sys.ops in
    let a = triple m c.args.a.now in
    let w = m c.args.w.now in
    let computed : m c.sub.result ≡ scalar o w a = cc in
    computed
    ∙ solve o g.met.S.System.lawful.ring (among o (entries 3 a ++ w ∷ []))
    (scalar exprs (var 3) (vars 3 0)) (norm exprs (var 3) (vars 3 0)) tt
