use Rattle.std.proofs.Common.{sym, ap, ◌∙◌}
use Rattle.algebra.specs.Ring.{Laws}
use Rattle.extensions.specs.Conjugates.{scaled, Conjugation, root_frobenius_map}
use Rattle.extensions.specs.Schoolbook.{binomial}
use Rattle.extensions.specs.Extensions.{extend}
use Rattle.extensions.proofs.Inverses.{whole, inverse_by_conjugates, conjugates_inverse}
use Rattle.extensions.proofs.Norms.{conjugates_four}
use Rattle.extensions.proofs.Products.{binomial_laws, binomial_scales, quintic_passes}
use Rattle.extensions.proofs.Roots.{root_conjugation}
use Rattle.quintic.specs.Quintuples.{quintuple}
use Rattle.quintic.proofs.conjugates.quintic_inv.Goals as goal

pub returns : goal.returns
returns g c law =
    let m = g.S.System.mean in
    let o = g.S.System.sys.ops in
    let L = g.met.S.System.lawful.ring in
    let w = m c.args.w.now in
    let z = m c.args.z.now in
    let a = quintuple m c.args.a.now in
    let n = m c.in_ok-scalar.scalar in
    let φ = root_frobenius_map 5 o z in
    let E : Laws (extend 4 o (binomial 5 o w)) = binomial_laws 4 quintic_passes o L w in
    let C : Conjugation 4 o (binomial 5 o w) φ = root_conjugation o L z 4 law w in
    let conj = c.other_conjugates-prod_conj.ensures law ∙ conjugates_four (extend 4 o (binomial 5 o w)) E φ (C.below o.one) C.products a in
    ap (binomial 5 o w a) (c.scale.ensures ∙ ap (scaled 5 o n) conj)
    ∙ inverse_by_conjugates 4 o L (binomial 5 o w) E (binomial_scales 4 quintic_passes o L w) φ C a n
    (ap (λ t. o.mul t n) (sym (c.quintic_mul_low-norm.ensures ∙ ap (λ t. (binomial 5 o w a t).0) conj)) ∙ c.in_ok-scalar.ensures)

pub returns-in_err-scalar : goal.returns-in_err-scalar
returns-in_err-scalar g c law =
    let m = g.S.System.mean in
    let o = g.S.System.sys.ops in
    let L = g.met.S.System.lawful.ring in
    let w = m c.args.w.now in
    let z = m c.args.z.now in
    let a = quintuple m c.args.a.now in
    let φ = root_frobenius_map 5 o z in
    let E : Laws (extend 4 o (binomial 5 o w)) = binomial_laws 4 quintic_passes o L w in
    let C : Conjugation 4 o (binomial 5 o w) φ = root_conjugation o L z 4 law w in
    let conj = c.other_conjugates-prod_conj.ensures law ∙ conjugates_four (extend 4 o (binomial 5 o w)) E φ (C.below o.one) C.products a in
    rw c.from_residual.ensures
    (λ b e.
    let inverse = conjugates_inverse 4 o L (binomial 5 o w) E (binomial_scales 4 quintic_passes o L w) φ C a b e in
    let n = (whole 4 o L (binomial 5 o w) E (binomial_scales 4 quintic_passes o L w) φ C b).0 in
    c.in_err-scalar.ensures n (ap (λ t. o.mul t n) (c.quintic_mul_low-norm.ensures ∙ ap (λ t. (binomial 5 o w a t).0) conj) ∙ inverse))
