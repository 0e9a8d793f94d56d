use Rattle.std.proofs.Common.{◌≡◌, suc, ◌≢◌, refl, arith, rules, tests}
use Rattle.std.proofs.lemmas.Iterator.{cases_from_all, YieldsList-from_range}
use Rattle.extensions.specs.Tuples.{each}
use Rattle.extensions.proofs.Ranges.{each_has}
use Rattle.extensions.proofs.Tuples.{tuple_same}
use Rattle.extensions.proofs.Written.{at}
use Rattle.extensions.proofs.vectors.vector_same.Goals as goal

pub returns-clause-equal : goal.returns-clause-equal
returns-clause-equal g c t =
    let s = g.S.System in
    let v = g.V.Coefficients in
    let n = suc v.d in
    let a = v.tuple c.args.a.now in
    let b = v.tuple c.args.b.now in
    let at' = at s.mean s.sys.ops.zero n in
    let end = c.degree.result in
    let cases = cases_from_all _ _ _ (λ j. at' a j ≡ at' b j) (λ j. at' a j ≢ at' b j) c.all.ensures.ran
    (YieldsList-from_range 0 end end refl (omega arith)) (λ x q k. search (rules, tests)) (λ x q k. search (rules, tests)) in
    tuple_same n (each n s.mean a) (each n s.mean b) s.sys.ops.zero
    (λ j l. each_has (λ j. at' a j ≡ at' b j) (λ j. at' a j ≢ at' b j) c.all.result 0 end cases t j (omega arith) (omega (arith, c.degree.ensures)))
