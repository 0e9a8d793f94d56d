use Rattle.std.proofs.Common.{◌≡◌, ℕ, ◌+◌, ◌*◌, ◌/◌, ◌%◌, ◌^◌, ◌<◌, sym, ap, ◌∙◌, mul_comm, arith}
use Rattle.std.proofs.lemmas.Nat.{mul-add-lt, mod-mul-add, div-mul-add}
use Rattle.mornings.specs.Draws.{share, Even}
use Rattle.mornings.proofs.draws.number.Goals as goal

turned : (l n i : ℕ) → n + l * i ≡ i * l + n
turned l n i = omega (arith, mul_comm l i)

within : (l n i : ℕ) → n < l → i < share l → n + l * i < 2 ^ 32
within l n i low place = let inside : i * l + n < l * share l = mul-add-lt i l n (share l) place low in omega (arith, turned l n i)

same_number : (l n m i j : ℕ) → n < l → m < l → n + l * i ≡ m + l * j → n ≡ m
same_number l n m i j p q e = sym (mod-mul-add i l n p) ∙ ap (λ w. w % l) (sym (turned l n i) ∙ e ∙ turned l m j) ∙ mod-mul-add j l m q

same_place : (l n m i j : ℕ) → n < l → m < l → n + l * i ≡ m + l * j → i ≡ j
same_place l n m i j p q e = sym (div-mul-add i l n p) ∙ ap (λ w. w / l) (sym (turned l n i) ∙ e ∙ turned l m j) ∙ div-mul-add j l m q

-- the words are words, and none has two numbers or two places
even : (l : ℕ) → Even l
even l n m i j p q u v = (within l n i p u, λ e. (same_number l n m i j p q e, same_place l n m i j p q e))

pub returns-then-from-clause-even : goal.returns-then-from-clause-even
returns-then-from-clause-even c = even c.args.limit

pub returns-else-from-clause-even : goal.returns-else-from-clause-even
returns-else-from-clause-even c = even c.args.limit
