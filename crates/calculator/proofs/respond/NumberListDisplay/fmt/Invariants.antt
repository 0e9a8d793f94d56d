use Rattle.std.proofs.Common.{◌∷◌, take, decimal}
use Rattle.std.specs.Fmt.{HasWritten, IsPlainFormatter}
use Rattle.std.specs.List.{flat_map}
use Rattle.calculator.proofs.respond.NumberListDisplay.fmt.Given as goal

-- a comma and a number, for each number so far
abbrev pub invariant-loop-n : goal.invariant-loop-n
invariant-loop-n g l =
    IsPlainFormatter l.initial.f → HasWritten g.W.Write.write_str_gives l.initial.f (flat_map (λ n. 44 ∷ decimal n) (take l.n-index l.rest)) l.f
