use Rattle.std.proofs.Common.{◌≡◌, ℕ, ◌≢◌, List, [], ◌∷◌, ◌++◌, Some, None, Option, ap, ◌∙◌, lit<}
use denote.Ref.{Bor}
use Rattle.std.specs.Option.{MatchOption}
use Rattle.std.proofs.lemmas.Str.Pattern.{strip_prefix_char, strip_suffix_char}
use Rattle.calculator.specs.Text.{Found, Bracketed}
use Rattle.calculator.proofs.text.inside.Goals as goal

-- behind the opening bracket, what stands before the closing one is found
closed : (text rest : List ℕ) (r : Option (Bor (List ℕ))) → text ≡ 91 ∷ rest → MatchOption r ((front : List ℕ) → rest ≢ front ++ (93 ∷ [])) (λ x. rest ≡ x.now ++ (93 ∷ []))
    → Found (λ x. x.now) (Bracketed text) r
closed text rest (Some x) e h = e ∙ ap (λ t. 91 ∷ t) h
closed text rest None e h = λ inner b. h inner cc

pub returns-in_err-strip_prefix : goal.returns-in_err-strip_prefix
returns-in_err-strip_prefix c =
    rw c.from_residual.ensures (λ inner e. strip_prefix_char 91 c.args.text.now None c.in_err-strip_prefix.ensures.cases (lit< tt) (inner ++ (93 ∷ [])) e)

pub returns : goal.returns
returns c =
    let rest = c.in_ok-strip_prefix.field-0 in
    closed c.args.text.now rest.now c.strip_suffix.result (strip_prefix_char 91 c.args.text.now (Some rest) c.in_ok-strip_prefix.ensures.cases (lit< tt))
    (strip_suffix_char 93 rest.now c.strip_suffix.result c.strip_suffix.ensures.cases (lit< tt))
