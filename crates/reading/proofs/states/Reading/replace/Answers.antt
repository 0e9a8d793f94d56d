use Rattle.std.proofs.Common.{sym, refl, ap, ◌∙◌, subst, ap₂}
use Rattle.std.proofs.lemmas.Result.{err_from_is_err_and}
use Rattle.algebra.specs.Ring.{sub, multiple}
use Rattle.reading.specs.Sheet.{sum_of, Below}
use Rattle.reading.specs.Sound.{sheet}
use Rattle.reading.proofs.Refusals.{replace_beyond}
use Rattle.reading.proofs.Soundness.{sound, same_reading}
use Rattle.reading.proofs.Sums.{sum_set, below_set}
use Rattle.reading.proofs.states.Reading.replace.Goals as goal

pub returns-in_err-old-clause-answer : goal.returns-in_err-old-clause-answer
returns-in_err-old-clause-answer g c =
    let p = err_from_is_err_and c.from_residual-in_err-old.result c.from_residual-in_err-old.ensures.1 in
    let beyond = c.in_err-old.ensures in
    rw (p.1, p.2, beyond.0) (record {
      refused = replace_beyond g.S.System.sys (sheet c.args.self.now) c.args.place c.args.e c.in_ok-value.ensures.0 beyond.1;
      unchanged = same_reading _ _ refl beyond.2 refl refl;
    })

pub invariant_of-self-3-clause-summed : goal.invariant_of-self-3-clause-summed
invariant_of-self-3-clause-summed g c =
    let sys = g.S.System.sys in
    let o = sys.ops in
    let W = g.met.S.System.lawful in
    let s = c.args.self.now in
    let x = g.S.System.mean s.point.element in
    let put = c.in_ok-old.ensures in
    let change = c.sub.ensures ∙ ap₂ (sub o) c.in_ok-value.ensures.1 (c.in_ok-old_value.ensures.1 ∙ ap (multiple o) put.1) in
    ∣ c.add-self.ensures
    ∙ ap₂ o.add (sound s W).summed (c.mul.ensures ∙ ap₂ o.mul change c.exp_u64-power.ensures)
    ∙ sym (ap (sum_of sys x) put.2 ∙ sum_set o W.ring x (sheet s) c.args.place c.args.e put.0) ∣₁

pub invariant_of-self-3-clause-below : goal.invariant_of-self-3-clause-below
invariant_of-self-3-clause-below g c =
    let limit = g.S.System.sys.limit in
    let s = c.args.self.now in
    subst (Below limit) (sym c.in_ok-old.ensures.2) (below_set limit (sheet s) c.args.place c.args.e s.below c.in_ok-value.ensures.0)
