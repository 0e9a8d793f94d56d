use Rattle.std.proofs.Common.{◌≡◌, ℕ, suc, ◌*◌, ◌<◌, take, drop}
use Rattle.extensions.proofs.Written.{at}
use Rattle.encoding.specs.Bytes.{encoding}
use Rattle.encoding.proofs.elements.ElementEncoded.decode.Given as goal

-- the parts of the bytes encode the coefficients so far
abbrev pub invariant-loop-k : goal.invariant-loop-k
invariant-loop-k g l =
    let s = g.S.System in
    let x = g.V.Coefficients in
    (j : ℕ) → j < l.k → encoding s.sys (at s.mean s.sys.ops.zero (suc x.d) (x.tuple l.res.value) j) ≡ take l.part (drop (j * l.part) l.bytes)
