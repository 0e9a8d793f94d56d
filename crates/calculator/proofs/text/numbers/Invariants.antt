use Rattle.std.proofs.Common.{map, take, vec_items}
use Rattle.calculator.specs.Text.{Numbers}
use Rattle.calculator.proofs.text.numbers.Given as goal

-- the texts so far are the numbers found
abbrev pub invariant-loop-text : goal.invariant-loop-text
invariant-loop-text l = Numbers (map (λ x. x.now) (take l.text-index l.texts)) (vec_items l.found)
