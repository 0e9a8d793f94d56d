use Rattle.std.proofs.Common.{◌≡◌, ℕ, ◌<◌, Bool, true, false, List, length, get_or, MatchBool, vec_items, rules, tests, refl, arith, sym, subst, [], ◌∷◌}
use Rattle.std.specs.Prelude.{◌≢◌, ◌↔◌, Any, IsTrue}
use Rattle.std.specs.List.{HoldsAt, AllWithin}
use Rattle.std.proofs.lemmas.Bool.{false≢true}
use Rattle.std.proofs.lemmas.List.{get_or_default}
use Rattle.std.proofs.lemmas.Iterator.{cases_from_any, YieldsList-from_slice}
use Rattle.mornings.specs.declared.drafts.Handset.{Handset}
use Rattle.mornings.proofs.drafts.Draft.has_handset.Goals as goal

-- what is found is there
told : (P : Handset → Type 0) (r : Bool) (xs : List Handset) → MatchBool r ((k : ℕ) × (k < length xs) × HoldsAt P xs k) (AllWithin (λ h. P h → ⊥) xs 0 (length xs))
    → IsTrue r ↔ Any P xs
told P true [] h = (λ _. absurd (omega (arith, h.1)), λ _. refl)
told P true (y ∷ ys) h = (λ _. (h.0, get_or (y ∷ ys) h.0 y, h.1, get_or_default (y ∷ ys) h.0 (get_or (y ∷ ys) h.0 y) y h.1, h.2 y), λ _. refl)
told P false xs h = (λ e. absurd (false≢true e), λ w. absurd (h w.0 w.1 (omega arith) w.2 (subst P (sym w.3) w.4)))

pub returns : goal.returns
returns c =
    let xs = vec_items c.args.self.now.handsets in
    let n = c.args.number in
    told (λ h. h.number ≡ n) c.any.result xs (cases_from_any _ _ c.any.result (λ h. h.number ≡ n) (λ h. h.number ≢ n) c.any.ensures.ran (YieldsList-from_slice xs cc) (λ x q k. search (rules, tests)) (λ x q k. search (rules, tests)))
