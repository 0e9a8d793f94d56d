use Rattle.std.proofs.Common.{◌≡◌, suc, ◌-◌, ◌≢◌, refl, arith, rules, tests}
use Rattle.std.proofs.lemmas.Iterator.{cases_from_all, YieldsList-from_range}
use Rattle.extensions.specs.Tuples.{each}
use Rattle.extensions.proofs.Ranges.{each_has, all_have}
use Rattle.extensions.proofs.Written.{at, zeros_above, zero_above}
use Rattle.extensions.proofs.below.is_in_basefield.Goals as goal

pub returns-clause-within : goal.returns-clause-within
returns-clause-within g c t =
    let s = g.S.System in
    let x = g.E.Coefficients in
    let n = suc x.d in
    let a = x.tuple c.args.a.now in
    let zero = s.sys.ops.zero in
    let at' = at s.mean zero n a in
    let end = c.degree.result in
    let cases = cases_from_all _ _ _ (λ j. at' j ≡ zero) (λ j. at' j ≢ zero) c.all.ensures.ran
    (YieldsList-from_range 1 end (end - 1) refl refl) (λ y q k. search (rules, tests)) (λ y q k. search (rules, tests)) in
    zeros_above x.d (each n s.mean a) zero
    (λ j low high. each_has (λ j. at' j ≡ zero) (λ j. at' j ≢ zero) c.all.result 1 (end - 1) cases t j low (omega (arith, c.degree.ensures)))

pub returns-clause-beyond : goal.returns-clause-beyond
returns-clause-beyond g c e =
    let s = g.S.System in
    let x = g.E.Coefficients in
    let n = suc x.d in
    let a = x.tuple c.args.a.now in
    let t = each n s.mean a in
    let zero = s.sys.ops.zero in
    let at' = at s.mean zero n a in
    let end = c.degree.result in
    let cases = cases_from_all _ _ _ (λ j. at' j ≡ zero) (λ j. at' j ≢ zero) c.all.ensures.ran
    (YieldsList-from_range 1 end (end - 1) refl refl) (λ y q k. search (rules, tests)) (λ y q k. search (rules, tests)) in
    all_have (λ j. at' j ≡ zero) (λ j. at' j ≢ zero) c.all.result 1 (end - 1) cases (λ j p q. q p) (zero_above x.d t t.0 zero e)
