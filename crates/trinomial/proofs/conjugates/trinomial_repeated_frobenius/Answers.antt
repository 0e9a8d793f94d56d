use Rattle.std.proofs.Common.{◌≡◌, ◌%◌, ap, ◌∙◌, arith}
use Rattle.extensions.specs.Conjugates.{repeated, table_frobenius}
use Rattle.extensions.proofs.Periods.{repeated_modulo}
use Rattle.quintic.specs.Quintuples.{quintuple}
use Rattle.trinomial.specs.Rows.{rows}
use Rattle.trinomial.proofs.conjugates.trinomial_repeated_frobenius.Goals as goal

pub returns : goal.returns
returns g c law =
    let s = g.S.System in
    let φ = table_frobenius s.sys.ops (rows s.mean c.args.t.now) in
    let a = quintuple s.mean c.args.a.now in
    let ended : c.loop-k._k ≡ c.args.count % 5 = omega arith in
    c.loop-k.invariant ∙ ap (λ n. repeated φ n a) ended ∙ repeated_modulo φ 5 law.period c.args.count a
