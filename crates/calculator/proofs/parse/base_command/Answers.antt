use Rattle.std.proofs.Common.{◌≡◌, ◌+◌, ◌∷◌, length, map, codes, arith}
use Rattle.std.proofs.lemmas.Grind.{common_steps}
use Rattle.calculator.specs.Commands.{base_lines, word}
use Rattle.calculator.proofs.Reasons.{err_hindered, fails_lacks}
use Rattle.calculator.proofs.parse.base_command.Goals as goal

-- all is right but an operand
pub returns-in_err-call : goal.returns-in_err-call
returns-in_err-call c =
    let ws = codes "base" ∷ map (λ x. x.now) c.args.rest.now in
    let k = base_lines in
    let verb = c.in_ok-verb.verb in
    let placed : k.Is (word ws 1) c.in_ok-base.base = grind (arith, common_steps) in
    let named : word ws 2 ≡ k.text_of verb = grind (arith, common_steps) in
    let counted : length ws ≡ 3 + k.count verb = grind (arith, common_steps) in
    let first : c.in_ok-first.first.now ≡ word ws 3 = grind (arith, common_steps) in
    let second : c.in_ok-first.second.now ≡ word ws 4 = grind (arith, common_steps) in
    err_hindered _ c.from_residual-in_err-call.result c.in_err-call.field-0.0 c.from_residual-in_err-call.ensures.1
    (λ why f. fails_lacks k ws why c.in_ok-base.base verb placed named counted (rw (first, second) at f)) c.in_err-call.ensures
