-- System 8 is lawful and X has an inverse there, so that no reading at X is refused; two sheets that X does not tell apart.
use Rattle.std.proofs.Common.{◌≡◌, ℕ, Bool, true, false, List, [], ◌∷◌, Ok, Err, Result, refl, ap, ◌∙◌, lit<, lit≤}
use Rattle.algebra.specs.Units.{IsUnit}
use Rattle.bases.specs.Residues.{res}
use Rattle.numbers.specs.declared.refusal.Refusal.{Refusal}
use Rattle.numbers.specs.declared.refusal.Refusal.TheVariants.{StrangeSystem, CutList, OverLimit, NoInverse, NoConjugates, FullSheet, EmptySheet, NoSuchPlace}
use Rattle.reading.specs.Sheet.{sum_of}
use Rattle.sheets.specs.Comparisons.{BothBelow, Readable, Unreadable, SameFigures, Tells}
use Rattle.sheets.specs.Runs.{Refused}
use Rattle.catalog.specs.Catalog.{system_8}
use Rattle.catalog.proofs.NineLawful.{lawful_8}
use Rattle.figures.specs.Readings.{X}

-- 6 X^4 is the inverse of X
unit : (y : system_8.Elem) → y ≡ X → IsUnit system_8.ops y
unit y e =
    let r = res 11 (lit≤ tt) in
    let b : system_8.Elem = (r 0, (r 0, (r 0, (r 0, (r 6, tt))))) in
    (b, ap (λ z. system_8.ops.mul z b) e ∙ lawful_8.list_injective (system_8.ops.mul X b) system_8.ops.one refl)

pub never_refused : (y : system_8.Elem) (n m : ℕ) (q : Refusal) → y ≡ X → m ≡ n → Refused system_8 y n m q → ⊥
never_refused y n m CutList e same h = h same
never_refused y n m NoInverse e same h = h.1 (unit y e).0 (unit y e).1
never_refused y n m StrangeSystem e same h = h
never_refused y n m OverLimit e same h = h
never_refused y n m NoConjugates e same h = h
never_refused y n m FullSheet e same h = h
never_refused y n m EmptySheet e same h = h
never_refused y n m NoSuchPlace e same h = h

-- the sheets 1,0,0,0,0,1 and 3,0,0,0,0,0
abbrev pub one_and_one : List ℕ
one_and_one = 1 ∷ 0 ∷ 0 ∷ 0 ∷ 0 ∷ 1 ∷ []

abbrev pub three : List ℕ
three = 3 ∷ 0 ∷ 0 ∷ 0 ∷ 0 ∷ 0 ∷ []

same_sum : (y : system_8.Elem) → y ≡ X → sum_of system_8 y one_and_one ≡ sum_of system_8 y three
same_sum y e = rw e (lawful_8.list_injective (sum_of system_8 X one_and_one) (sum_of system_8 X three) refl)

both_below : BothBelow system_8 one_and_one three
both_below =
    ((lit< tt, (lit< tt, (lit< tt, (lit< tt, (lit< tt, (lit< tt, tt)))))), (lit< tt, (lit< tt, (lit< tt, (lit< tt, (lit< tt, (lit< tt, tt)))))))

-- a comparison of the two at X has one answer
pub answers_true : (y : system_8.Elem) → y ≡ X → (r : Result Bool Refusal)
    → elim r as (λ v. Type 0) [ Ok b ↦ Readable system_8 (y ∷ []) one_and_one three | Err q ↦ Unreadable system_8 (y ∷ []) one_and_one three q ]
    → elim r as (λ v. Type 0) [ Ok b ↦ Tells b (SameFigures system_8 (y ∷ []) one_and_one three) | Err q ↦ Unit {0} ] → r ≡ Ok true
answers_true y e (Ok true) refused tells = refl
answers_true y e (Ok false) refused tells = absurd (tells.1 (record { counts = refl; sums = (same_sum y e, tt) }))
answers_true y e (Err OverLimit) refused tells = absurd (refused both_below)
answers_true y e (Err FullSheet) refused tells = absurd (refused.1 (lit≤ tt, lit≤ tt))
answers_true y e (Err NoInverse) refused tells = absurd (refused.2 (unit y e, tt))
answers_true y e (Err StrangeSystem) refused tells = absurd refused
answers_true y e (Err CutList) refused tells = absurd refused
answers_true y e (Err NoConjugates) refused tells = absurd refused
answers_true y e (Err EmptySheet) refused tells = absurd refused
answers_true y e (Err NoSuchPlace) refused tells = absurd refused
