use Rattle.std.proofs.Common.{◌≡◌, suc, sym, ap, ◌∙◌}
use Rattle.extensions.specs.Conjugates.{scaled}
use Rattle.extensions.specs.Tuples.{each}
use Rattle.extensions.proofs.Inverses.{whole, others, inverse_by_conjugates, conjugates_inverse}
use Rattle.extensions.proofs.Layers.{product_means, inverse_means, means_inverse}
use Rattle.extensions.proofs.conjugates.pseudo_inv.Goals as goal

pub returns : goal.returns
returns g c =
    let s = g.S.System in
    let o = s.sys.ops in
    let L = g.met.S.System.lawful.ring in
    let x = g.E.Coefficients in
    let e = g.met.E.Extension.extends.0 in
    let same = g.met.E.Extension.extends.1 in
    let means = λ (v : _). each (suc x.d) s.mean (x.tuple v) in
    let times = g.E.Extension.product (suc x.d) s.sys.Elem o s.mean in
    let φ = g.E.Conjugates.conjugate (suc x.d) s.sys.Elem o s.mean in
    let C = c.other_conjugates-prod_conj.ensures.conjugation in
    let a = c.args.a.now in
    let n = s.mean c.in_ok-scalar.scalar in
    let norm : s.mean c.coefficient-norm.result ≡ (times (means a) (others x.d o L times e.ring e.scaling φ C (means a))).0 =
    c.coefficient-norm.ensures
    ∙ ap (λ t. t.0) (product_means x.d s.sys times g.E.System.sys e g.E.System.mean means same a c.other_conjugates-prod_conj.result c.mul.result c.mul.ensures
    ∙ ap (times (means a)) c.other_conjugates-prod_conj.ensures.product) in (
      λ z. absurd (c.if-same.ensures.different (z ∙ sym c.zero-zero.ensures)),
      λ _. inverse_means x.d s.sys times g.E.System.sys e g.E.System.mean means same a c.scale.result
          (ap (times (means a)) (c.scale.ensures ∙ ap (scaled (suc x.d) o n) c.other_conjugates-prod_conj.ensures.product)
          ∙ inverse_by_conjugates x.d o L times e.ring e.scaling φ C (means a) n (ap (λ t. o.mul t n) (sym norm) ∙ c.in_ok-scalar.ensures)),
    )

pub returns-in_err-scalar : goal.returns-in_err-scalar
returns-in_err-scalar g c =
    let s = g.S.System in
    let o = s.sys.ops in
    let L = g.met.S.System.lawful.ring in
    let x = g.E.Coefficients in
    let e = g.met.E.Extension.extends.0 in
    let same = g.met.E.Extension.extends.1 in
    let means = λ (v : _). each (suc x.d) s.mean (x.tuple v) in
    let times = g.E.Extension.product (suc x.d) s.sys.Elem o s.mean in
    let φ = g.E.Conjugates.conjugate (suc x.d) s.sys.Elem o s.mean in
    let C = c.other_conjugates-prod_conj.ensures.conjugation in
    let a = c.args.a.now in
    let norm : s.mean c.coefficient-norm.result ≡ (times (means a) (others x.d o L times e.ring e.scaling φ C (means a))).0 =
    c.coefficient-norm.ensures
    ∙ ap (λ t. t.0) (product_means x.d s.sys times g.E.System.sys e g.E.System.mean means same a c.other_conjugates-prod_conj.result c.mul.result c.mul.ensures
    ∙ ap (times (means a)) c.other_conjugates-prod_conj.ensures.product) in rw c.from_residual.ensures (
      λ z. c.if-same.ensures.different (z ∙ sym c.zero-zero.ensures),
      λ b p.
          let t = e.tuple b in
          let n = (whole x.d o L times e.ring e.scaling φ C t).0 in
          c.in_err-scalar.ensures n
          (ap (λ u. o.mul u n) norm
          ∙ conjugates_inverse x.d o L times e.ring e.scaling φ C (means a) t
          (means_inverse x.d s.sys times g.E.System.sys e g.E.System.mean means same a b p)),
    )
