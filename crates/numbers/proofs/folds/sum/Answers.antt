use Rattle.std.proofs.Common.{rules, ◌≡◌, map, subst}
use Rattle.std.proofs.lemmas.Fn.{fold_over, slice_gives, fronts}
use Rattle.algebra.specs.Ring.{total}
use Rattle.numbers.proofs.Elementwise.{total_push}
use Rattle.numbers.proofs.folds.sum.Goals as goal

pub returns : goal.returns
returns g c =
    let mean = g.S.System.mean in
    let o = g.S.System.sys.ops in
    subst (λ xs. mean c.fold.result ≡ total o (map mean xs)) c.iter.ensures.rest
    (fold_over fronts (λ x. x.now) _ (λ xs all. mean all ≡ total o (map mean xs)) _
    (λ xs all x next f' so_far k. let more = total_push mean o g.met.S.System.lawful.ring xs x.now in search rules)
    _ _ _ _ (slice_gives c.iter.result) c.zero.ensures c.fold.ensures.ran)
