use Rattle.std.proofs.Common.{◌≡◌}
use Rattle.extensions.specs.Conjugates.{repeated, table_frobenius}
use Rattle.quintic.specs.Quintuples.{quintuple}
use Rattle.trinomial.specs.Rows.{rows}
use Rattle.trinomial.proofs.conjugates.trinomial_repeated_frobenius.Given as goal

-- so many applications
abbrev pub invariant-loop-k : goal.invariant-loop-k
invariant-loop-k g l =
    let s = g.S.System in
    quintuple s.mean l.image ≡ repeated (table_frobenius s.sys.ops (rows s.mean l.t)) l._k (quintuple s.mean l.a)
