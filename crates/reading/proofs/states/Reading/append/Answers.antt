use Rattle.std.proofs.Common.{length, sym, refl, ap, ◌∙◌, subst, ap₂}
use Rattle.std.proofs.lemmas.Result.{err_from_is_err_and}
use Rattle.algebra.specs.Ring.{power}
use Rattle.reading.specs.Sheet.{sum_of, Below}
use Rattle.reading.specs.Sound.{sheet}
use Rattle.reading.proofs.Refusals.{append_full}
use Rattle.reading.proofs.Soundness.{sound, same_reading}
use Rattle.reading.proofs.Sums.{sum_append, power-append, below_append}
use Rattle.reading.proofs.states.Reading.append.Goals as goal

pub returns-in_err-count-clause-answer : goal.returns-in_err-count-clause-answer
returns-in_err-count-clause-answer g c =
    let p = err_from_is_err_and c.from_residual-in_err-count.result c.from_residual-in_err-count.ensures.1 in
    let full = c.in_err-count.ensures in
    rw (p.1, p.2, full.0) (record {
      refused = append_full g.S.System.sys (sheet c.args.self.now) c.args.e c.in_ok-value.ensures.0 full.1;
      unchanged = same_reading _ _ refl full.2 refl refl;
    })

pub invariant_of-self-3-clause-summed : goal.invariant_of-self-3-clause-summed
invariant_of-self-3-clause-summed g c =
    let sys = g.S.System.sys in
    let o = sys.ops in
    let W = g.met.S.System.lawful in
    let s = c.args.self.now in
    let x = g.S.System.mean s.point.element in
    ∣ c.add-self.ensures
    ∙ ap₂ o.add (sound s W).summed (c.mul.ensures ∙ ap₂ o.mul c.in_ok-value.ensures.1 (sound s W).raised)
    ∙ sym (ap (sum_of sys x) c.in_ok-count.ensures.1 ∙ sum_append o W.ring x (sheet s) c.args.e) ∣₁

pub invariant_of-self-3-clause-raised : goal.invariant_of-self-3-clause-raised
invariant_of-self-3-clause-raised g c =
    let o = g.S.System.sys.ops in
    let W = g.met.S.System.lawful in
    let s = c.args.self.now in
    let x = g.S.System.mean s.point.element in
    ∣ c.mul-self.ensures
    ∙ ap (λ p. o.mul p x) (sound s W).raised
    ∙ power-append o W.ring x (sheet s) c.args.e
    ∙ sym (ap (λ l. power o x (length l)) c.in_ok-count.ensures.1) ∣₁

pub invariant_of-self-3-clause-below : goal.invariant_of-self-3-clause-below
invariant_of-self-3-clause-below g c =
    let limit = g.S.System.sys.limit in
    let s = c.args.self.now in
    subst (Below limit) (sym c.in_ok-count.ensures.1) (below_append limit (sheet s) c.args.e s.below c.in_ok-value.ensures.0)
