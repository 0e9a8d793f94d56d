-- Texts that are calls one by one, and the first that is none.
use Rattle.std.proofs.Common.{◌≡◌, ℕ, ◌<◌, List, [], ◌∷◌, ◌++◌, map, length, get_or, take, sym, subst, ap, ◌∙◌, arith, below_more}
use Rattle.std.proofs.Math.ListN.{get_or-append}
use Rattle.std.proofs.Math.Seq.{get_or-append_seam}
use Rattle.std.proofs.lemmas.Grind.{common_steps}
use Rattle.std.proofs.lemmas.List.{length-map, get_or-map, get_or-take}
use Rattle.calculator.specs.Text.{words}
use Rattle.reading.specs.declared.calls.Call.{Call}
use Rattle.reading.specs.declared.calls.Call.TheVariants.{Look}
use Rattle.mornings.specs.Lines.{Calls, FirstBad, IsCall, NotCall, words_at}
use Rattle.mornings.specs.declared.items.Reason.{Reason}

-- one more text, and the call that it is
pub more : (ts : List (List ℕ)) (cs : List Call) (t : List ℕ) (c : Call) → Calls ts cs → IsCall c (words t) → Calls (ts ++ (t ∷ [])) (cs ++ (c ∷ []))
more ts cs t c h w =
    let last : get_or (cs ++ (c ∷ [])) (length ts) Look ≡ c = rw (← h.len) (get_or-append_seam cs c [] Look) in record {
      len = grind (arith, common_steps);
      each = λ k lt. below_more (λ j. IsCall (get_or (cs ++ (c ∷ [])) j Look) (words_at (ts ++ (t ∷ [])) j)) (length ts)
          (λ j l. rw (get_or-append ts (t ∷ []) [] j l, get_or-append cs (c ∷ []) Look j (omega (arith, h.len))) (h.each j l))
          (rw (get_or-append_seam ts t [] [], last) w) k (grind (arith, common_steps));
    }

-- a text among the first i is that text among all
among : {X : Type 0} (f : X → List ℕ) (xs : List X) (i k : ℕ) (d : X) → k < i → i < length xs → get_or (map f (take i xs)) k [] ≡ get_or (map f xs) k []
among f xs i k d low within =
    get_or-map f (take i xs) k d [] (grind (arith, common_steps)) ∙ ap f (get_or-take i xs k d low) ∙ sym (get_or-map f xs k d [] (omega arith))

-- the text after those that are calls is none
pub first_bad : {X : Type 0} (f : X → List ℕ) (xs : List X) (i : ℕ) (d : X) (cs : List Call) (why : Reason) → i < length xs → Calls (map f (take i xs)) cs
    → NotCall (words (f (get_or xs i d))) why → FirstBad (map f xs) why
first_bad f xs i d cs why within h bad = record {
  place = i;
  inside = omega (arith, length-map xs f);
  before = λ k low. (get_or cs k Look, subst (λ t. IsCall (get_or cs k Look) (words t)) (among f xs i k d low within) (h.each k (grind (arith, common_steps))));
  bad = subst (λ t. NotCall (words t) why) (sym (get_or-map f xs i d [] within)) bad;
}
