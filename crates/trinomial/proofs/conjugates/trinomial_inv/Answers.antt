use Rattle.std.proofs.Common.{sym, ap, ◌∙◌}
use Rattle.algebra.specs.Ring.{Laws}
use Rattle.extensions.specs.Conjugates.{scaled, Conjugation, table_frobenius}
use Rattle.extensions.specs.Schoolbook.{trinomial}
use Rattle.extensions.specs.Extensions.{extend}
use Rattle.extensions.proofs.Inverses.{whole, inverse_by_conjugates, conjugates_inverse}
use Rattle.extensions.proofs.Norms.{conjugates_four}
use Rattle.extensions.proofs.Products.{trinomial_laws, trinomial_scales}
use Rattle.extensions.proofs.Tables.{table_conjugation}
use Rattle.quintic.specs.Quintuples.{quintuple}
use Rattle.trinomial.specs.Rows.{rows}
use Rattle.trinomial.proofs.conjugates.trinomial_inv.Goals as goal

pub returns : goal.returns
returns g c law =
    let m = g.S.System.mean in
    let o = g.S.System.sys.ops in
    let L = g.met.S.System.lawful.ring in
    let a = quintuple m c.args.a.now in
    let φ = table_frobenius o (rows m c.args.t.now) in
    let E : Laws (extend 4 o (trinomial o)) = trinomial_laws o L in
    let C : Conjugation 4 o (trinomial o) φ = table_conjugation o L (rows m c.args.t.now) law.powers law in
    let conj = c.other_conjugates-prod_conj.ensures ∙ conjugates_four (extend 4 o (trinomial o)) E φ (C.below o.one) C.products a in
    let n = m c.in_ok-scalar.scalar in
    ap (trinomial o a) (c.scale.ensures ∙ ap (scaled 5 o n) conj)
    ∙ inverse_by_conjugates 4 o L (trinomial o) E (trinomial_scales o L) φ C a n
    (ap (λ t. o.mul t n) (sym (c.trinomial_mul_low-norm.ensures ∙ ap (λ t. (trinomial o a t).0) conj)) ∙ c.in_ok-scalar.ensures)

pub returns-in_err-scalar : goal.returns-in_err-scalar
returns-in_err-scalar g c law =
    let m = g.S.System.mean in
    let o = g.S.System.sys.ops in
    let L = g.met.S.System.lawful.ring in
    let a = quintuple m c.args.a.now in
    let φ = table_frobenius o (rows m c.args.t.now) in
    let E : Laws (extend 4 o (trinomial o)) = trinomial_laws o L in
    let C : Conjugation 4 o (trinomial o) φ = table_conjugation o L (rows m c.args.t.now) law.powers law in
    let conj = c.other_conjugates-prod_conj.ensures ∙ conjugates_four (extend 4 o (trinomial o)) E φ (C.below o.one) C.products a in
    rw c.from_residual.ensures
    (λ b e.
    let n = (whole 4 o L (trinomial o) E (trinomial_scales o L) φ C b).0 in
    let inverse = conjugates_inverse 4 o L (trinomial o) E (trinomial_scales o L) φ C a b e in
    c.in_err-scalar.ensures n (ap (λ t. o.mul t n) (c.trinomial_mul_low-norm.ensures ∙ ap (λ t. (trinomial o a t).0) conj) ∙ inverse))
