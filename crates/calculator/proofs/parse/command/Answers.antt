use Rattle.std.proofs.Common.{◌≡◌, ℕ, ◌-◌, ◌≤◌, List, [], ◌∷◌, length, get_or, take, drop, map, codes, sym, ap, ap₂, inr, arith, Bor}
use Rattle.std.proofs.lemmas.List.{take_all}
use Rattle.std.proofs.lemmas.Result.{MatchResult-weaker}
use Rattle.calculator.proofs.Reasons.{hindered_by}
use Rattle.calculator.proofs.parse.command.Goals as goal

-- the first word, and the words behind it
split_first : (k : List ℕ) (xs : List (Bor (List ℕ))) (d : Bor (List ℕ)) → (get_or xs 0 d).now ≡ k → 1 ≤ length xs
    → k ∷ map (λ x. x.now) (take (length xs - 1) (drop 1 xs)) ≡ map (λ x. x.now) xs
split_first k [] d e n = absurd (omega arith)
split_first k (x ∷ xs) d e n = ap₂ (λ w ws. w ∷ map (λ y. y.now) ws) (sym e) (take_all (length (x ∷ xs) - 1) xs (omega arith))

pub returns-in-system : goal.returns-in-system
returns-in-system c =
    let e = split_first (codes "system") c.args.all.now _ c.in-system.is-system c.in-system.len_at_least in
    MatchResult-weaker c.system_command.result (rw e at c.system_command.ensures) (λ _ w. w) (λ f. hindered_by f (λ why h. inr (inr (sym (ap (λ ws. get_or ws 0 []) e), h))))
