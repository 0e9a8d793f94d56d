use Rattle.std.proofs.Common.{[], sym, ap, ◌∙◌}
use Rattle.std.proofs.lemmas.List.{length-replicate}
use Rattle.reading.specs.Sheet.{after, sum_of}
use Rattle.catalog.specs.Catalog.{system_8}
use Rattle.figures.proofs.System8.{never_refused}
use Rattle.figures.proofs.readings.figure_after.Goals as goal

pub returns-in_err-run : goal.returns-in_err-run
returns-in_err-run g c =
    let q = c.in_err-run.field-0.0 in
    absurd (never_refused _ _ _ q c.root.ensures (length-replicate g.row.N _ ∙ sym c.told-calls) c.in_err-run.ensures.inverse)

pub returns : goal.returns
returns g c =
    let ran = c.in_ok-run.ensures.runs in
    let L = after system_8 [] c.args.calls.now in
    record { count = ran.count; sum = ap system_8.list (ran.sum ∙ ap (λ y. sum_of system_8 y L) c.root.ensures) }
