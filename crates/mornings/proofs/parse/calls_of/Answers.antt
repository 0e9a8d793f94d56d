use Rattle.std.proofs.Common.{◌+◌, ◌∷◌, [], ◌++◌, map, take, vec_items, sym, subst, ap, ◌∙◌}
use Rattle.std.proofs.lemmas.List.{map_more}
use Rattle.mornings.specs.Lines.{Calls, IsCall, NotCall}
use Rattle.mornings.proofs.Stopped.{stopped_bad}
use Rattle.mornings.proofs.Texts.{first_bad, more}
use Rattle.mornings.proofs.parse.calls_of.Goals as goal

pub returns-in_err-call : goal.returns-in_err-call
returns-in_err-call c =
    stopped_bad _ _ _ c.in_err-call.field-0.0 c.from_residual-in_err-call.ensures.1
    (first_bad (λ x. x.now) c.args.texts.now c.loop-text.text-index _ _ _ c.loop-text-test.true c.loop-text.invariant
    (subst (λ ws. NotCall ws c.in_err-call.field-0.0) (ap (map (λ x. x.now)) c.deref.ensures.value ∙ c.in_ok-words.ensures) c.in_err-call.ensures))

pub loop-text-preserved : goal.loop-text-preserved
loop-text-preserved c =
    let texts = c.args.texts.now in
    let i = c.loop-text.text-index in
    subst (Calls (map (λ x. x.now) (take (i + 1) texts))) (sym c.in_ok-push.ensures.items)
    (subst (λ ts. Calls ts (vec_items c.loop-text.found ++ (c.in_ok-call.call ∷ []))) (sym (map_more (λ x. x.now) texts i _ c.loop-text-test.true))
    (more _ _ _ _ c.loop-text.invariant
    (subst (IsCall c.in_ok-call.call) (ap (map (λ x. x.now)) c.deref.ensures.value ∙ c.in_ok-words.ensures) c.in_ok-call.ensures)))
