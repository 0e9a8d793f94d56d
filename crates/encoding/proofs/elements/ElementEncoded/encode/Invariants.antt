use Rattle.std.proofs.Common.{◌≡◌, ℕ, suc, ◌*◌, ◌<◌, take, drop}
use Rattle.extensions.proofs.Written.{at}
use Rattle.encoding.specs.Bytes.{encoding}
use Rattle.encoding.proofs.elements.ElementEncoded.encode.Given as goal

-- the parts so far encode their coefficients, and before the first nothing is written
abbrev pub invariant-loop-k : goal.invariant-loop-k
invariant-loop-k g l =
    let s = g.S.System in
    let x = g.V.Coefficients in
    ((j : ℕ) → j < l.k → encoding s.sys (at s.mean s.sys.ops.zero (suc x.d) (x.tuple l.self.value) j) ≡ take l.part (drop (j * l.part) l.out))
    × (l.k ≡ 0 → l.out ≡ l.fn.out)
