-- A number that is drawn from a word of 32 random bits. Below a limit there are as many words for each number as for any other; what words are left over are
-- not used.
use Rattle.std.specs.Prelude.{◌≡◌, ℕ, ◌+◌, ◌*◌, ◌/◌, ◌^◌, ◌<◌, Option, Some, None}

-- how many words each number below the limit has
abbrev pub share : ℕ → ℕ
share limit = 2 ^ 32 / limit

-- the word is the one of this place among the words of the number: every limit-th word, from the number on
abbrev pub IsWordOf : ℕ → ℕ → ℕ → ℕ → Type 0
IsWordOf limit n place word = word ≡ n + limit * place

-- the number that the word stands for, below the limit; none if it is left over
abbrev pub Drawn : ℕ → ℕ → Option ℕ → Type 0
Drawn limit word (Some n) = (n < limit) × ((place : ℕ) × (place < share limit) × IsWordOf limit n place word)
Drawn limit word None = (n place : ℕ) → n < limit → place < share limit → IsWordOf limit n place word → ⊥

-- no word stands for two numbers or at two places, and each of them is a word of 32 bits: so each number has as many words as it has places
abbrev pub Even : ℕ → Type 0
Even limit =
    (n m i j : ℕ) → n < limit → m < limit → i < share limit → j < share limit
    → (n + limit * i < 2 ^ 32) × (n + limit * i ≡ m + limit * j → (n ≡ m) × (i ≡ j))
