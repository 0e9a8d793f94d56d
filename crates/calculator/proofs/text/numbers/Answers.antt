use Rattle.std.proofs.Common.{◌≡◌, ℕ, ◌+◌, List, [], ◌∷◌, ◌++◌, map, length, get_or, take, vec_items, sym, subst, arith, below_more}
use Rattle.std.proofs.Math.ListN.{get_or-append}
use Rattle.std.proofs.Math.Seq.{get_or-append_seam}
use Rattle.std.proofs.lemmas.Grind.{common_steps}
use Rattle.std.proofs.lemmas.List.{length-map, get_or-map, map_more}
use Rattle.calculator.specs.Text.{Number, Numbers}
use Rattle.calculator.proofs.text.numbers.Goals as goal

-- one more text, and the number that it is
more : (ts : List (List ℕ)) (ns : List ℕ) (t : List ℕ) (n : ℕ) → Numbers ts ns → Number t n → Numbers (ts ++ (t ∷ [])) (ns ++ (n ∷ []))
more ts ns t n h w =
    let last : get_or (ns ++ (n ∷ [])) (length ts) 0 ≡ n = rw (← h.len) (get_or-append_seam ns n [] 0) in record {
      len = grind (arith, common_steps);
      each = λ k lt. below_more (λ j. Number (get_or (ts ++ (t ∷ [])) j []) (get_or (ns ++ (n ∷ [])) j 0)) (length ts)
          (λ j l. rw (get_or-append ts (t ∷ []) [] j l, get_or-append ns (n ∷ []) 0 j (omega (arith, h.len))) (h.each j l))
          (rw (get_or-append_seam ts t [] [], last) w) k (grind (arith, common_steps));
    }

pub returns-in_default : goal.returns-in_default
returns-in_default c ns all =
    let texts = c.args.texts.now in
    let i = c.loop-text.text-index in
    c.in_default.ensures (get_or ns i 0)
    (subst (λ t. Number t (get_or ns i 0)) (get_or-map (λ x. x.now) texts i _ [] c.loop-text-test.true) (all.each i (omega (arith, length-map texts (λ x. x.now)))))

pub loop-text-preserved : goal.loop-text-preserved
loop-text-preserved c =
    let texts = c.args.texts.now in
    let i = c.loop-text.text-index in
    subst (Numbers (map (λ x. x.now) (take (i + 1) texts))) (sym c.in_ok-push.ensures.items)
    (subst (λ ts. Numbers ts (vec_items c.loop-text.found ++ (c.in-Some.n ∷ []))) (sym (map_more (λ x. x.now) texts i _ c.loop-text-test.true))
    (more _ _ _ _ c.loop-text.invariant c.in-Some.ensures))
