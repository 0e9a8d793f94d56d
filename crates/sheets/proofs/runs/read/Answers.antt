use Rattle.std.proofs.Common.{◌≡◌, length, sym, refl, ap, ◌∙◌, subst, ap₂, arith}
use Rattle.std.proofs.lemmas.Result.{err_from_is_err_and}
use Rattle.algebra.specs.Units.{Inverts}
use Rattle.algebra.proofs.Units.{inverse_unique}
use Rattle.reading.specs.Sheet.{sum_of, after, answers}
use Rattle.sheets.proofs.Sheets.{agreement}
use Rattle.sheets.proofs.runs.read.Goals as goal

pub returns-then-out-calls-clause-agreement : goal.returns-then-out-calls-clause-agreement
returns-then-out-calls-clause-agreement g c = agreement g.S.System.sys g.met.S.System.lawful

pub returns-in_err-point : goal.returns-in_err-point
returns-in_err-point g c =
    let p = err_from_is_err_and c.from_residual.result c.from_residual.ensures.1 in
    let none = c.in_err-point.ensures in
    let same : length c.args.out.now ≡ length c.args.calls.now = omega arith in
    record {
      inverse = rw (p.1, p.2, none.0) (same, none.1);
      runs = rw p.1 refl;
      agreement = agreement g.S.System.sys g.met.S.System.lawful;
    }

pub returns : goal.returns
returns g c =
    let s = g.S.System.sys in
    let W = g.met.S.System.lawful in
    let m = g.S.System.mean in
    let x = c.args.x in
    let cs = c.args.calls.now in
    let drawn = c.in_ok-point.ensures in
    let begun = c.begin-reading.ensures in
    let same = begun.point.0 ∙ drawn.0 in
    let point = c.play.ensures.point ∙ same in
    let list = c.play.ensures.list ∙ ap (λ L. after s L cs) begun.empty in
    let inverts = subst (λ i. Inverts s.ops (m x) (m i)) (sym c.inverse-inverse.ensures) drawn.1 in
    record {
      inverse = record { inverts = inverts; only = λ b e. inverse_unique s.ops W.ring (m x) b (m c.inverse-inverse.result) e inverts };
      runs = record {
        answered = c.play.ensures.answers ∙ ap₂ (λ y L. answers s (m y) L cs) same begun.empty;
        element = c.close-figure.ensures.element ∙ point;
        count = c.close-figure.ensures.count ∙ ap length list;
        sum = c.close-figure.ensures.sum ∙ ap₂ (λ y L. sum_of s (m y) L) point list;
      };
      agreement = agreement s W;
    }
