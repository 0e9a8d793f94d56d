use Rattle.std.proofs.Common.{◌≡◌, ℕ, ◌^◌, ◌<◌, ◌≤◌, true, List, length, get_or, sym, subst, arith, lit<}
use Rattle.std.specs.Prelude.{Ok, Err, Result}
use Rattle.std.specs.Result.{OkIff, result_ok}
use Rattle.std.specs.Str.Parse.{digits_value}
use Rattle.std.specs.Str.{all_ascii_digits}
use Rattle.std.proofs.lemmas.Str.Parse.{IsNumeralModel, numerals_by_value, tells_all_ascii_digits, parse_plain}
use Rattle.std.proofs.lemmas.Str.Pattern.{starts_char}
use Rattle.calculator.specs.Text.{Found, Number}
use Rattle.calculator.proofs.text.number.Goals as goal

own : IsNumeralModel (λ ds. all_ascii_digits ds ≡ true) (digits_value 10)
own = numerals_by_value _ tells_all_ascii_digits

-- what is parsed of at most twenty digits is the number that the text is
found : {E : Type 0} (bs : List ℕ) (r : Result ℕ E) → length bs ≤ 20
    → OkIff r ((all_ascii_digits bs ≡ true) × (0 < length bs) × (digits_value 10 bs < 2 ^ 64)) (digits_value 10 bs) → Found (λ n. n) (Number bs) (result_ok r)
found bs (Ok n) short h = record { digits = h.0.0; some = h.0.1; short = short; value_is = sym h.1; fits = omega (arith, h.0.2, h.1) }
found bs (Err e) short h = λ n w. h (w.digits, w.some, omega (arith, w.value_is, w.fits))

pub returns : goal.returns
returns c =
    let bs = c.args.text.now in
    let sign = starts_char 43 bs c.starts_with.result c.starts_with.ensures.cases (lit< tt) (lit< tt) in
    let plain : get_or bs 0 0 ≡ 43 → ⊥ = λ e. (cc (sign.1 e)) in
    subst (Found (λ n. n) (Number bs)) (sym c.ok.ensures.value) (found bs c.parse.result (omega arith) (parse_plain own 64 bs c.parse.result c.parse.ensures.value.0 plain))
