-- One call more, and what every sheet that calls leave has in common.
use Rattle.std.proofs.Common.{◌≡◌, ℕ, ◌<◌, List, [], ◌∷◌, ◌++◌, length, Some, None, Option, sym, refl, ap, subst, inl, inr, arith}
use Rattle.numbers.specs.Systems.{Sys}
use Rattle.reading.specs.Sheet.{most, refusal, taken, changed, told, after, answers, Below}
use Rattle.reading.specs.declared.calls.Call.{Call}
use Rattle.reading.specs.declared.calls.Call.TheVariants.{Append, Drop, Replace, Look}
use Rattle.numbers.specs.declared.refusal.Refusal.{Refusal}
use Rattle.numbers.specs.declared.refusal.Refusal.TheVariants.{OverLimit, FullSheet, NoSuchPlace}
use Rattle.std.proofs.lemmas.Bool.{cases_lt}
use Rattle.reading.proofs.Refusals.{append_taken, append_full, append_over, drop_taken, replace_taken, replace_beyond, replace_over}
use Rattle.reading.proofs.Sums.{below_append, below_set}

module _ (s : Sys) where
  pub after_more : (L : List ℕ) (cs : List Call) (c : Call) → after s L (cs ++ (c ∷ [])) ≡ changed s (after s L cs) c
  unfolding after
  after_more L [] c = refl
  after_more L (d ∷ cs) c = after_more (changed s L d) cs c

  pub answers_more : (x : s.Elem) (L : List ℕ) (cs : List Call) (c : Call) → answers s x L (cs ++ (c ∷ [])) ≡ answers s x L cs ++ (told s x (after s L cs) c ∷ [])
  unfolding after answers
  answers_more x L [] c = refl
  answers_more x L (d ∷ cs) c = ap (λ rest. told s x L d ∷ rest) (answers_more x (changed s L d) cs c)

  -- what a call leaves, refused or not
  leaves : (L : List ℕ) (c : Call) (o : Option Refusal) → refusal s L c ≡ o → changed s L c ≡ elim o [ None ↦ taken L c | Some q ↦ L ]
  leaves L c o h = ap (λ r. elim r [ None ↦ taken L c | Some q ↦ L ]) h

  below_changed_append : (L : List ℕ) (e : ℕ) → Below s.limit L → Below s.limit (changed s L (Append e))
  below_changed_append L e below =
      let P = Below s.limit in
      let left = leaves L (Append e) in
      elim (cases_lt e s.limit) [
        | inl under ↦
            elim (cases_lt (length L) most) [
              | inl room ↦ subst P (sym (left None (append_taken s L e under room))) (below_append s.limit L e below under)
              | inr full ↦ subst P (sym (left (Some FullSheet) (append_full s L e under full))) below
            ]
        | inr over ↦ subst P (sym (left (Some OverLimit) (append_over s L e over))) below
      ]

  below_changed_replace : (L : List ℕ) (i e : ℕ) → Below s.limit L → Below s.limit (changed s L (Replace i e))
  below_changed_replace L i e below =
      let P = Below s.limit in
      let left = leaves L (Replace i e) in
      elim (cases_lt e s.limit) [
        | inl under ↦
            elim (cases_lt i (length L)) [
              | inl within ↦ subst P (sym (left None (replace_taken s L i e under within))) (below_set s.limit L i e below under)
              | inr beyond ↦ subst P (sym (left (Some NoSuchPlace) (replace_beyond s L i e under beyond))) below
            ]
        | inr over ↦ subst P (sym (left (Some OverLimit) (replace_over s L i e over))) below
      ]

  below_changed : (L : List ℕ) (c : Call) → Below s.limit L → Below s.limit (changed s L c)
  below_changed L (Append e) below = below_changed_append L e below
  below_changed [] Drop below = below
  below_changed (d ∷ L) Drop below =
      let some : 0 < length (d ∷ L) = omega arith in
      subst (Below s.limit) (sym (leaves (d ∷ L) Drop None (drop_taken s (d ∷ L) some))) below.1
  below_changed L (Replace i e) below = below_changed_replace L i e below
  below_changed L Look below = below

  -- every entry that calls leave is below the limit
  pub below_after : (L : List ℕ) (cs : List Call) → Below s.limit L → Below s.limit (after s L cs)
  unfolding after
  below_after L [] below = below
  below_after L (c ∷ cs) below = below_after (changed s L c) cs (below_changed L c below)
