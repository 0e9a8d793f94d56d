use Rattle.std.proofs.Common.{◌≡◌, map, ap, ◌∙◌}
use Rattle.std.proofs.lemmas.Result.{MatchResult-weaker}
use Rattle.calculator.specs.Text.{words}
use Rattle.calculator.proofs.Reasons.{hindered_nothing}
use Rattle.calculator.proofs.parse.parse.Goals as goal

pub returns : goal.returns
returns c =
    let e : map (λ x. x.now) c.deref.result.now ≡ words c.args.line.now = ap (map (λ x. x.now)) c.deref.ensures.value ∙ c.in_ok-found.ensures in
    MatchResult-weaker c.command.result (rw e at c.command.ensures) (λ _ w. w) (hindered_nothing (words c.args.line.now))
