use Rattle.std.proofs.Common.{T, map, take}
use Rattle.algebra.specs.Polynomial.{Each}
use Rattle.algebra.specs.Units.{IsUnit}
use Rattle.sheets.specs.Comparisons.{SameFigures}
use Rattle.sheets.proofs.comparison.compare.Given as goal

-- the points so far are units, and `alike` tells whether the figures are the same at them
abbrev pub invariant-loop-x : goal.invariant-loop-x
invariant-loop-x g l =
    let s = g.S.System.sys in
    let points = take l.x-index (map g.S.System.mean l.points) in
    Each (IsUnit s.ops) points × (T l.alike → SameFigures s points l.left l.right) × (SameFigures s points l.left l.right → T l.alike)
