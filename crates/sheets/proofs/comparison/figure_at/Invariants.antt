use Rattle.std.proofs.Common.{◌≡◌, take}
use Rattle.reading.specs.Sound.{sheet}
use Rattle.sheets.proofs.comparison.figure_at.Given as goal

-- the reading is at its element, and has read the entries so far
abbrev pub invariant-loop-e : goal.invariant-loop-e
invariant-loop-e g l =
    (l.reading.point.element ≡ l.initial.reading.point.element) × (sheet l.reading ≡ take l.e-index l.entries)
