-- What `all` over a range of numbers tells.
use Rattle.std.proofs.Common.{◌≡◌, ℕ, ◌+◌, ◌-◌, ◌<◌, ◌≤◌, Bool, T, length, sym, ◌∙◌, subst, arith}
use Rattle.std.specs.List.{range_with_len}
use Rattle.std.specs.Prelude.{MatchBool}
use Rattle.std.specs.List.{AllWithin, HoldsAt}
use Rattle.std.proofs.lemmas.Bool.{MatchBool-at_true}
use Rattle.std.proofs.lemmas.Float.{T_from_true}
use Rattle.std.proofs.lemmas.Iterator.Search.{true_from_All}
use Rattle.std.proofs.lemmas.List.Elements.{All-from_all_within}
use Rattle.std.proofs.lemmas.List.FromFn.{get_or-range_with_len, length-range_with_len}
use Rattle.extensions.proofs.Tuples.{true_from_T}

-- `cases` is what `all` ensures of the numbers from `start` on, `many` of them
module _ (P Q : ℕ → Type 0) (r : Bool) (start many : ℕ)
    (cases : MatchBool r (AllWithin P (range_with_len start many) 0 (length (range_with_len start many)))
    ((k : ℕ) × (k < length (range_with_len start many)) × HoldsAt Q (range_with_len start many) k)) where
  -- where it answered true, each number has P
  pub each_has : T r → (j : ℕ) → start ≤ j → j < start + many → P j
  each_has t j low high =
      let lt : j - start < many = omega arith in
      let back : start + (j - start) ≡ j = omega arith in
      subst P (get_or-range_with_len start many (j - start) 0 lt ∙ back)
      (MatchBool-at_true _ _ (true_from_T r t) cases (j - start) 0 (omega arith) (rw (length-range_with_len start many) lt))

  -- where each has P, it answered true, if none with P has Q
  pub all_have : ((j : ℕ) → P j → Q j → ⊥) → ((j : ℕ) → start ≤ j → P j) → T r
  all_have apart h =
      T_from_true r
      (true_from_All P Q r (range_with_len start many) apart cases
      (All-from_all_within P (range_with_len start many)
      (λ k d low high.
      let lt : k < many = rw (sym (length-range_with_len start many)) high in
      subst P (sym (get_or-range_with_len start many k d lt)) (h (start + k) (omega arith)))))
