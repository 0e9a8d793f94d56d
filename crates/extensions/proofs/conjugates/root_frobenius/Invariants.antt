use Rattle.std.proofs.Common.{◌≡◌, ℕ, suc, ◌<◌}
use Rattle.algebra.specs.Ring.{power}
use Rattle.extensions.proofs.Written.{at}
use Rattle.extensions.proofs.conjugates.root_frobenius.Given as goal

-- the power before the next one, and the coefficients so far
abbrev pub invariant-loop-k : goal.invariant-loop-k
invariant-loop-k g l =
    let s = g.S.System in
    let x = g.E.Coefficients in
    let at' = at s.mean s.sys.ops.zero (suc x.d) in
    (s.sys.ops.mul (s.mean l.z) (s.mean l.power) ≡ power s.sys.ops (s.mean l.z) l.k)
    × ((j : ℕ) → j < l.k → at' (x.tuple l.res) j ≡ s.sys.ops.mul (at' (x.tuple l.a) j) (power s.sys.ops (s.mean l.z) j))
