use Rattle.std.proofs.Common.{rules, ◌≡◌, map, subst}
use Rattle.std.proofs.lemmas.Fn.{fold_over, slice_gives, fronts}
use Rattle.algebra.specs.Ring.{product}
use Rattle.numbers.proofs.Elementwise.{product_push}
use Rattle.numbers.proofs.folds.product.Goals as goal

pub returns : goal.returns
returns g c =
    let mean = g.S.System.mean in
    let o = g.S.System.sys.ops in
    subst (λ xs. mean c.fold.result ≡ product o (map mean xs)) c.iter.ensures.rest
    (fold_over fronts (λ x. x.now) _ (λ xs all. mean all ≡ product o (map mean xs)) _
    (λ xs all x next f' so_far k. let more = product_push mean o g.met.S.System.lawful.ring xs x.now in search rules)
    _ _ _ _ (slice_gives c.iter.result) c.one.ensures c.fold.ensures.ran)
