use Rattle.std.proofs.Common.{◌≤◌, length, refl, ap, ◌∙◌, subst, ap₂, arith}
use Rattle.std.proofs.lemmas.Result.{err_from_is_err_and}
use Rattle.algebra.specs.Ring.{sub, power}
use Rattle.reading.specs.Sheet.{sum_of, Below}
use Rattle.reading.specs.Sound.{sheet}
use Rattle.reading.proofs.Refusals.{drop_empty}
use Rattle.reading.proofs.Soundness.{sound, same_reading}
use Rattle.reading.proofs.Sums.{sum_drop, power-drop}
use Rattle.reading.proofs.states.Reading.drop.Goals as goal

pub returns-in_err-first-clause-answer : goal.returns-in_err-first-clause-answer
returns-in_err-first-clause-answer g c =
    let p = err_from_is_err_and c.from_residual.result c.from_residual.ensures.1 in
    let empty = c.in_err-first.ensures in
    let none : length (sheet c.args.self.now) ≤ 0 = omega (arith, ap length empty.1) in
    rw (p.1, p.2, empty.0) (record {
      refused = drop_empty g.S.System.sys (sheet c.args.self.now) none;
      unchanged = same_reading _ _ refl empty.2 refl refl;
    })

pub invariant_of-self-3-clause-summed : goal.invariant_of-self-3-clause-summed
invariant_of-self-3-clause-summed g c =
    let sys = g.S.System.sys in
    let o = sys.ops in
    let W = g.met.S.System.lawful in
    let m = g.S.System.mean in
    let s = c.args.self.now in
    let x = m s.point.element in
    let i = m s.point.inverse in
    ∣ c.mul-self.ensures
    ∙ ap (λ a. o.mul a i) (c.sub.ensures ∙ ap₂ (sub o) ((sound s W).summed ∙ ap (sum_of sys x) c.in_ok-first.ensures) c.in_ok-value.ensures.1)
    ∙ sum_drop o W.ring x i c.in_ok-first.first c.pop_front.new.self (sound s W).inverts ∣₁

pub invariant_of-self-3-clause-raised : goal.invariant_of-self-3-clause-raised
invariant_of-self-3-clause-raised g c =
    let o = g.S.System.sys.ops in
    let W = g.met.S.System.lawful in
    let m = g.S.System.mean in
    let s = c.args.self.now in
    let x = m s.point.element in
    let i = m s.point.inverse in
    ∣ c.mul-self-2.ensures
    ∙ ap (λ p. o.mul p i) ((sound s W).raised ∙ ap (λ l. power o x (length l)) c.in_ok-first.ensures)
    ∙ power-drop o W.ring x i (length c.pop_front.new.self) (sound s W).inverts ∣₁

pub invariant_of-self-3-clause-below : goal.invariant_of-self-3-clause-below
invariant_of-self-3-clause-below g c =
    let below = subst (Below g.S.System.sys.limit) c.in_ok-first.ensures c.args.self.now.below in
    below.1
