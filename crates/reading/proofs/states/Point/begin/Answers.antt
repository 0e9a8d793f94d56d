use Rattle.std.proofs.Common.{sym, ap, ◌∙◌, subst, length}
use Rattle.algebra.specs.Ring.{power}
use Rattle.reading.specs.Sheet.{sum_of, Below}
use Rattle.reading.proofs.states.Point.begin.Goals as goal

pub invariant_of-result-clause-summed : goal.invariant_of-result-clause-summed
invariant_of-result-clause-summed g c =
    let x = g.S.System.mean c.args.self.element in
    ∣ c.zero-sum.ensures ∙ sym (ap (sum_of g.S.System.sys x) c.empty.ensures) ∣₁

pub invariant_of-result-clause-raised : goal.invariant_of-result-clause-raised
invariant_of-result-clause-raised g c =
    let x = g.S.System.mean c.args.self.element in
    ∣ c.one-power.ensures ∙ sym (ap (λ l. power g.S.System.sys.ops x (length l)) c.empty.ensures) ∣₁

pub invariant_of-result-clause-below : goal.invariant_of-result-clause-below
invariant_of-result-clause-below g c = subst (Below g.S.System.sys.limit) (sym c.empty.ensures) tt
