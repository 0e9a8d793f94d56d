use Rattle.std.proofs.Common.{◌≡◌, suc, ◌+◌, ◌-◌, ◌≤◌, ap, ◌∙◌, arith}
use Rattle.extensions.specs.Conjugates.{conjugates}
use Rattle.extensions.specs.Extensions.{extend}
use Rattle.extensions.specs.Tuples.{each}
use Rattle.extensions.proofs.Layers.{product_means}
use Rattle.extensions.proofs.conjugates.other_conjugates.Goals as goal

pub loop-k-preserved : goal.loop-k-preserved
loop-k-preserved g c =
    let s = g.S.System in
    let x = g.E.Coefficients in
    let law = g.met.E.Extension.extends in
    let means = λ (v : _). each (suc x.d) s.mean (x.tuple v) in
    let a = means c.args.a.now in
    let φ = g.E.Conjugates.conjugate (suc x.d) s.sys.Elem s.sys.ops s.mean in
    let times = g.E.Extension.product (suc x.d) s.sys.Elem s.sys.ops s.mean in
    let ext = extend x.d s.sys.ops times in
    let k = c.loop-k._k in
    let low : 2 ≤ k = c.loop-k.auto._k in
    let next : suc (k - 1) ≡ (k + 1) - 1 = omega arith in
    c.frobenius-prod_conj-in-loop-k.ensures.image
    ∙ ap φ
    (product_means x.d s.sys times g.E.System.sys law.0 g.E.System.mean means law.1 c.loop-k.prod_conj c.args.a.now c.mul.result c.mul.ensures
    ∙ ap (λ t. times t a) c.loop-k.invariant
    ∙ law.0.ring.mul_comm (φ (conjugates ext φ (k - 1) a)) a
    ∙ ap (λ n. conjugates ext φ n a) next)
