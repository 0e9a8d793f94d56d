use Rattle.std.proofs.Common.{◌≡◌, ℕ, ◌<◌, ◌≤◌, List, [], map, length, codes, get_or, sym, subst, ◌∙◌, inr, arith}
use Rattle.std.proofs.lemmas.List.{length-map, get_or-map}
use Rattle.calculator.specs.Commands.{NotNumber}
use Rattle.mornings.specs.Lines.{NotCall, Shaped}
use Rattle.mornings.specs.declared.items.Reason.TheVariants.{NoNumber}
use Rattle.mornings.proofs.Stopped.{stopped}
use Rattle.mornings.proofs.parse.call.Goals as goal

-- the second number of a replace is none
second : {X : Type 0} (f : X → List ℕ) (xs : List X) (d : X) → f (get_or xs 0 d) ≡ [] → f (get_or xs 1 d) ≡ codes "replace" → 4 ≤ length xs → length xs < 5
    → NotNumber (f (get_or xs 3 d)) → NotCall (map f xs) NoNumber
second f xs d space named least below none =
    let shape : Shaped (map f xs) (codes "replace") 4 = record {
      space = get_or-map f xs 0 d [] (omega arith) ∙ space;
      named = get_or-map f xs 1 d [] (omega arith) ∙ named;
      counted = omega (arith, length-map xs f);
    } in inr (shape, inr (subst NotNumber (sym (get_or-map f xs 3 d [] (omega arith))) none))

pub returns-in_err-number-in-empty-3-2 : goal.returns-in_err-number-in-empty-3-2
returns-in_err-number-in-empty-3-2 c =
    let failed = c.in_err-number-in-empty-3-2.ensures in
    let words = c.args.words.now in
    let arm = c.in-empty-3 in
    stopped _ _ _ c.in_err-number-in-empty-3-2.field-0.0 c.from_residual-in_err-number-in-empty-3-2.ensures.1
    (subst (NotCall (map (λ x. x.now) words)) (sym failed.1) (second (λ x. x.now) words _ arm.is-empty arm.is-replace arm.len_at_least arm.len_below failed.0))
