-- What holds of an error holds of the result that stops with it.
use Rattle.std.proofs.Common.{◌≡◌, subst, sym}
use Rattle.std.specs.Prelude.{Ok, Err, Result, MatchResult}
use Rattle.std.specs.Result.{IsErrAnd}
use Rattle.mornings.specs.Lines.{Hindered}
use Rattle.mornings.specs.declared.items.Fault.{Fault}
use Rattle.mornings.specs.declared.items.Fault.TheVariants.{Bad}
use Rattle.mornings.specs.declared.items.Reason.{Reason}

pub stopped : {A E : Type 0} (P : A → Type 0) (Q : E → Type 0) (r : Result A E) (e : E) → IsErrAnd r (λ f. f ≡ e) → Q e → MatchResult r P Q
stopped P Q (Err f) e h q = subst Q (sym h) q
stopped P Q (Ok a) e h q = absurd h

pub stopped_bad : {A : Type 0} (P : A → Type 0) (Q : Reason → Type 0) (r : Result A Fault) (why : Reason) → IsErrAnd r (λ f. f ≡ Bad why) → Q why
    → MatchResult r P (Hindered Q)
stopped_bad P Q r why h q = stopped P (Hindered Q) r (Bad why) h q
