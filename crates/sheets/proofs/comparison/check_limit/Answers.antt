use Rattle.std.proofs.Common.{◌<◌, subst, arith, take_all}
use Rattle.std.proofs.lemmas.Result.{err_from_is_err_and}
use Rattle.reading.specs.Sheet.{Below}
use Rattle.reading.proofs.Sums.{below_at}
use Rattle.sheets.proofs.Points.{each_more}
use Rattle.sheets.proofs.comparison.check_limit.Goals as goal

pub loop-e-preserved : goal.loop-e-preserved
loop-e-preserved g c =
    each_more (λ e. e < g.S.System.sys.limit) c.args.entries.now c.loop-e.e-index 0 c.loop-e-test.true c.loop-e.invariant c.in_ok-entry.ensures.0

pub returns-in_err-entry : goal.returns-in_err-entry
returns-in_err-entry g c =
    let p = err_from_is_err_and c.from_residual.result c.from_residual.ensures.1 in
    let over = c.in_err-entry.ensures in
    rw (p.1, p.2) (
      over.1,
      λ below.
          let under = below_at g.S.System.sys.limit c.args.entries.now c.loop-e.e-index below c.loop-e-test.true in
          omega (arith, under, over.0),
    )

pub returns : goal.returns
returns g c = subst (Below g.S.System.sys.limit) (take_all c.loop-e.e-index c.args.entries.now c.loop-e-test.false) c.loop-e.invariant
