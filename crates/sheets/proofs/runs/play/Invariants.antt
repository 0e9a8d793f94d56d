use Rattle.std.proofs.Common.{◌≡◌, map, length, take}
use Rattle.reading.specs.Sheet.{said, after, answers}
use Rattle.reading.specs.Sound.{sheet}
use Rattle.sheets.proofs.runs.play.Given as goal

-- after i calls the reading is at its element, with the sheet that the first i calls leave, and the first i answers are that sheet's
abbrev pub invariant-loop-i : goal.invariant-loop-i
invariant-loop-i g l =
    let s = g.S.System.sys in
    let m = g.S.System.mean in
    let L = sheet l.initial.reading in
    (l.reading.point.element ≡ l.initial.reading.point.element)
    × (sheet l.reading ≡ after s L (take l.i l.calls))
    × (map (said m) (take l.i l.out) ≡ answers s (m l.initial.reading.point.element) L (take l.i l.calls))
    × (length l.out ≡ length l.calls)
