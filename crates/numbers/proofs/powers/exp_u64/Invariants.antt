use Rattle.std.proofs.Common.{◌≡◌, ◌/◌, ◌^◌}
use Rattle.algebra.specs.Ring.{power}
use Rattle.numbers.proofs.powers.exp_u64.Given as goal

-- what is done times what is left is the power: the bits from j on are the exponent of the current square
abbrev pub invariant-loop-j : goal.invariant-loop-j
invariant-loop-j g l =
    g.S.System.sys.ops.mul (g.S.System.mean l.product) (power g.S.System.sys.ops (g.S.System.mean l.current) (l.exponent / 2 ^ l.j))
    ≡ power g.S.System.sys.ops (g.S.System.mean l.initial.current) l.exponent
