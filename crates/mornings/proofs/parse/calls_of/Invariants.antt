use Rattle.std.proofs.Common.{map, take, vec_items}
use Rattle.mornings.specs.Lines.{Calls}
use Rattle.mornings.proofs.parse.calls_of.Given as goal

-- the texts so far are the calls found
abbrev pub invariant-loop-text : goal.invariant-loop-text
invariant-loop-text l = Calls (map (λ x. x.now) (take l.text-index l.texts)) (vec_items l.found)
