use Rattle.std.proofs.Common.{◌≡◌, ℕ, suc, ◌*◌, ◌<◌, take, drop}
use Rattle.extensions.proofs.Written.{at}
use Rattle.extensions.proofs.lists.extension_from_list.Given as goal

-- the coefficients so far mean their parts of the list
abbrev pub invariant-loop-k : goal.invariant-loop-k
invariant-loop-k g l =
    let s = g.S.System in
    let x = g.E.Coefficients in
    (j : ℕ) → j < l.k → s.sys.list (at s.mean s.sys.ops.zero (suc x.d) (x.tuple l.res) j) ≡ take l.part (drop (j * l.part) l.numbers)
