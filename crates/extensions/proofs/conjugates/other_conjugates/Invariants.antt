use Rattle.std.proofs.Common.{◌≡◌, suc, ◌-◌}
use Rattle.extensions.specs.Conjugates.{conjugates}
use Rattle.extensions.specs.Extensions.{extend}
use Rattle.extensions.specs.Tuples.{each}
use Rattle.extensions.proofs.conjugates.other_conjugates.Given as goal

-- the images of the first conjugates
abbrev pub invariant-loop-k : goal.invariant-loop-k
invariant-loop-k g l =
    let s = g.S.System in
    let x = g.E.Coefficients in
    let φ = g.E.Conjugates.conjugate (suc x.d) s.sys.Elem s.sys.ops s.mean in
    each (suc x.d) s.mean (x.tuple l.prod_conj)
    ≡ φ (conjugates (extend x.d s.sys.ops (g.E.Extension.product (suc x.d) s.sys.Elem s.sys.ops s.mean)) φ (l._k - 1) (each (suc x.d) s.mean (x.tuple l.a)))
