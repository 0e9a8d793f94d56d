use Rattle.std.proofs.Common.{◌≡◌, ℕ, ◌<◌, get_or}
use Rattle.algebra.specs.Ring.{power}
use Rattle.numbers.proofs.powers.Powers.fill.Given as goal

-- the first i places are filled, and the current element is i powers further
abbrev pub invariant-loop-place : goal.invariant-loop-place
invariant-loop-place g l =
    ((k : ℕ) (d : _) → k < l.place-index → g.S.System.mean (get_or l.out k d) ≡ g.S.System.sys.ops.mul (g.S.System.mean l.initial.self.current) (power g.S.System.sys.ops (g.S.System.mean l.initial.self.base) k))
    × (g.S.System.mean l.self.current ≡ g.S.System.sys.ops.mul (g.S.System.mean l.initial.self.current) (power g.S.System.sys.ops (g.S.System.mean l.initial.self.base) l.place-index))
    × (l.self.base ≡ l.initial.self.base)
