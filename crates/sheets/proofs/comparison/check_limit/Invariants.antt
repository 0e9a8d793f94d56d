use Rattle.std.proofs.Common.{take}
use Rattle.reading.specs.Sheet.{Below}
use Rattle.sheets.proofs.comparison.check_limit.Given as goal

abbrev pub invariant-loop-e : goal.invariant-loop-e
invariant-loop-e g l = Below g.S.System.sys.limit (take l.e-index l.entries)
