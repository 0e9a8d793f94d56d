use Rattle.std.proofs.lemmas.Result.{MatchResult-weaker}
use Rattle.mornings.proofs.Reasons.{hindered_nothing}
use Rattle.mornings.proofs.parse.parse.Goals as goal

pub returns : goal.returns
returns c =
    let line = c.args.line.now in
    let first = c.head.result.0.now in
    let rest = c.head.result.1.now in
    MatchResult-weaker c.item.result c.item.ensures (λ i says. (first, rest, c.head.ensures, says)) (λ f fails. hindered_nothing line first rest f c.head.ensures fails)
