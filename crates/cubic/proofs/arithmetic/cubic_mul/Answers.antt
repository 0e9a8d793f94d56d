use Rattle.std.proofs.Common.{◌≡◌, [], ◌∷◌, ◌++◌, ◌∙◌}
use Rattle.algebra.specs.Ring.{Ops, sub}
use Rattle.algebra.specs.Expr.{var, exprs, same, among}
use Rattle.extensions.specs.Tuples.{Tuple, entries}
use Rattle.extensions.specs.Schoolbook.{binomial}
use Rattle.extensions.proofs.Tuples.{vars, solves}
use Rattle.cubic.specs.Triples.{triple}
use Rattle.cubic.proofs.arithmetic.cubic_mul.Goals as goal

-- (x + y) × (z + t) − p − q
abbrev cross : {A : Type 0} → Ops A → A → A → A → A → A → A → A
cross o x y z t p q = sub o (sub o (o.mul (o.add x y) (o.add z t)) p) q

-- the code's formula
abbrev karatsuba : {A : Type 0} → Ops A → A → Tuple 3 A → Tuple 3 A → Tuple 3 A
karatsuba o w a b =
    let p0 = o.mul a.0 b.0 in
    let p1 = o.mul a.1.0 b.1.0 in
    let p2 = o.mul a.1.1.0 b.1.1.0 in (
      o.add p0 (o.mul (cross o a.1.0 a.1.1.0 b.1.0 b.1.1.0 p1 p2) w),
      (
        o.add (cross o a.0 a.1.0 b.0 b.1.0 p0 p1) (o.mul p2 w),
        (o.add (cross o a.0 a.1.1.0 b.0 b.1.1.0 p0 p2) p1, tt),
      ),
    )

pub returns : goal.returns
unfolding same
returns g c =
    let m = g.S.System.mean in
    let o = g.S.System.sys.ops in
    let a = triple m c.args.a.now in
    let b = triple m c.args.b.now in
    let w = m c.args.w.now in
    let computed : (m c.add-3.result, (m c.add-6.result, (m c.add-9.result, tt))) ≡ karatsuba o w a b = cc in
    computed
    ∙ solves o g.met.S.System.lawful.ring (among o (entries 3 a ++ entries 3 b ++ w ∷ [])) 3
    (karatsuba exprs (var 6) (vars 3 0) (vars 3 3)) (binomial 3 exprs (var 6) (vars 3 0) (vars 3 3)) tt
