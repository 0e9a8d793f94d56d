-- What a line comes to: the answer to it, and how the answer is written.
use Rattle.std.specs.Prelude.{◌≡◌, ℕ, ◌+◌, ◌-◌, ◌^◌, ◌<◌, min, ◌⊎◌, List, ◌++◌, length, vec_items, codes, slice_index}
use Rattle.numbers.specs.Refusals.{text_of}
use Rattle.calculator.specs.Text.{words, listing}
use Rattle.calculator.specs.Commands.{Writes, Because, Nothing, reason_text}
use Rattle.calculator.specs.Results.{GivesList, IsRefused}
use Rattle.calculator.specs.declared.command.Command.{Command}
use Rattle.calculator.specs.declared.line.Answer.{Answer}
use Rattle.calculator.specs.declared.line.Answer.TheVariants.{Element, Refused, Unreadable}
use Rattle.calculator.specs.declared.line.Tally.{Tally}

-- the line is a command of which P holds
abbrev pub Commands : List ℕ → (Command (List ℕ) → Type 0) → Type 0
Commands line P = (c : Command (List ℕ)) × Writes c (words line) × P c

-- The answer to a line: the list of what its command gives, or the refusal of that command, or the first reason why it is none.
abbrev pub Answers : List ℕ → Answer → Type 0
Answers line (Element v) = Commands line (λ c. GivesList c (vec_items v))
Answers line (Refused e) = Commands line (λ c. IsRefused c e)
Answers line (Unreadable why) = Because (words line) why × Nothing (words line)

-- how an answer is written
abbrev pub answer_text : Answer → List ℕ
answer_text (Element v) = listing (vec_items v)
answer_text (Refused e) = text_of e
answer_text (Unreadable why) = codes "unreadable: " ++ reason_text why

-- a line of spaces, or one that begins with #, is passed over
abbrev pub Passed : List ℕ → Type 0
Passed line = ((k : ℕ) → k < length line → slice_index line k ≡ 32) ⊎ (slice_index line 0 ≡ 35)

-- one more, as far as 64 bits go
abbrev pub more : ℕ → ℕ
more n = min (n + 1) (2 ^ 64 - 1)

-- the tally after an answer
abbrev pub noted : Tally → Answer → Tally
noted t (Element v) = record { lines = more t.lines; answers = more t.answers; refusals = t.refusals; unreadable = t.unreadable }
noted t (Refused e) = record { lines = more t.lines; answers = t.answers; refusals = more t.refusals; unreadable = t.unreadable }
noted t (Unreadable why) = record { lines = more t.lines; answers = t.answers; refusals = t.refusals; unreadable = more t.unreadable }
