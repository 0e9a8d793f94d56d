use Rattle.std.proofs.Common.{◌≡◌, ℕ, ◌+◌, ◌<◌, List, length, get_or, take, drop, sym, lit<, arith, inl, inr, refl}
use mathlib.Core.List.{append-nil}
use Rattle.std.specs.Prelude.{◌≢◌, Some, None}
use Rattle.std.specs.List.{slice_range}
use Rattle.std.proofs.lemmas.Grind.{common_steps}
use Rattle.std.proofs.lemmas.List.{take-append-drop, get_or-take, drop_more}
use Rattle.std.proofs.lemmas.Str.Pattern.{find_char}
use Rattle.mornings.specs.Lines.{Headed}
use Rattle.mornings.proofs.parse.head.Goals as goal

-- the text is cut at its first space
cut : (text : List ℕ) (k : ℕ) → k < length text → get_or text k 0 ≡ 32 → ((i : ℕ) → i < k → get_or text i 0 ≢ 32) → Headed text (take k text) (drop k text)
cut text k inside space before = record {
  joined = sym (take-append-drop k text);
  plain = λ i low. let lower : i < k = grind (arith, common_steps) in rw (get_or-take k text i 0 lower) (before i lower);
  spaced = inr (drop (k + 1) text, rw (drop_more text k 0 inside, space) refl);
}

-- what `&text[..k]` gives
front : (text : List ℕ) (k : ℕ) → slice_range text 0 k ≡ take k text
front text k = grind (arith, common_steps)

pub returns-in-Some : goal.returns-in-Some
returns-in-Some c =
    let text = c.args.text.now in
    let end = c.in-Some.end in
    let found = find_char 32 text (Some end) c.in-Some.ensures.cases (lit< tt) in
    rw (c.range.ensures.value, c.range_from.ensures.value, front text end) (cut text end found.0 found.1 found.2)

pub returns-in-None : goal.returns-in-None
returns-in-None c =
    let text = c.args.text.now in record {
      joined = sym (append-nil text);
      plain = find_char 32 text None c.in-None.ensures.cases (lit< tt);
      spaced = inl refl;
    }
