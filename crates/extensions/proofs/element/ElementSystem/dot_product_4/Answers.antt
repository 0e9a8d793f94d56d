use Rattle.std.proofs.Common.{suc, [], ◌∷◌, sym, ◌∙◌}
use Rattle.numbers.proofs.Sums.{total-joined}
use Rattle.extensions.specs.Extensions.{extend}
use Rattle.extensions.specs.Tuples.{each}
use Rattle.extensions.proofs.element.ElementSystem.dot_product_4.Goals as goal

pub returns : goal.returns
returns g c =
    let s = g.S.System in
    let v = g.V.Coefficients in
    let o = extend v.d s.sys.ops (g.R.Rule.product (suc v.d) s.sys.Elem s.sys.ops s.mean) in
    let L = g.met.R.Rule.lawful.ring in
    let m = λ (x : _). each (suc v.d) s.mean (v.tuple x.value) in
    let p0 = o.mul (m c.args.a0.now) (m c.args.b0.now) in
    let p1 = o.mul (m c.args.a1.now) (m c.args.b1.now) in
    let p2 = o.mul (m c.args.a2.now) (m c.args.b2.now) in
    let p3 = o.mul (m c.args.a3.now) (m c.args.b3.now) in
    let low = total-joined o L (m c.add.result) (m c.mul.result) (m c.mul-2.result) (p0 ∷ []) (p1 ∷ [])
    c.add.ensures (c.mul.ensures ∙ sym (L.add-zero p0)) (c.mul-2.ensures ∙ sym (L.add-zero p1)) in
    let high = total-joined o L (m c.add-2.result) (m c.mul-3.result) (m c.mul-4.result) (p2 ∷ []) (p3 ∷ [])
    c.add-2.ensures (c.mul-3.ensures ∙ sym (L.add-zero p2)) (c.mul-4.ensures ∙ sym (L.add-zero p3)) in
    total-joined o L (m c.add-3.result) (m c.add.result) (m c.add-2.result) (p0 ∷ p1 ∷ []) (p2 ∷ p3 ∷ []) c.add-3.ensures low high
