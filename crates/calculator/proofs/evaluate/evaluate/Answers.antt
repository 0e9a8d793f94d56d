-- Each arm works in its own system.
use Rattle.std.proofs.Common.{◌≡◌, ℕ, List, Ok, Err, Result, vec_items, refl, sym, subst}
use Rattle.std.specs.Prelude.{MatchResult}
use Rattle.numbers.specs.Systems.{Sys}
use Rattle.numbers.specs.declared.refusal.Refusal.{Refusal}
use Rattle.calculator.specs.Calls.{shown, system_shown}
use Rattle.calculator.specs.Results.{Gives, Stops, SystemGives, SystemStops, Shows, Worked, system_of}
use Rattle.calculator.specs.Settings.{whole, setting_1, setting_2, setting_3, setting_4, setting_5, setting_6, setting_7, setting_8, setting_9}
use Rattle.calculator.specs.declared.command.Base.TheVariants.{Two, Eleven, BabyBear, KoalaBear, Mersenne31}
use Rattle.calculator.specs.declared.command.Halt.{Halt}
use Rattle.calculator.specs.declared.command.Halt.TheVariants.{Refused, NoMemory}
use Rattle.calculator.proofs.evaluate.evaluate.Goals as goal

-- the list of the element that was found, or its refusal
worked : {X V : Type 0} (s : Sys) (mean : X → s.Elem) (shows : V → List ℕ) (G : s.Elem → Type 0) (P : Refusal → Type 0) (x : Result X Refusal) (r : Result V Halt)
    → MatchResult x (λ v. G (mean v)) P → MatchResult x (λ v. Worked shows (λ l. l ≡ s.list (mean v)) (λ _. ⊥) r) (λ e. r ≡ Err (Refused e)) → Worked shows (Shows s G) P r
worked s mean shows G P (Ok v) (Ok l) g w = (mean v, g, w)
worked s mean shows G P (Ok v) (Err (Refused e)) g w = absurd w
worked s mean shows G P (Ok v) (Err (NoMemory e)) g w = (s.list (mean v), (mean v, g, refl))
worked s mean shows G P (Err e) r p w = subst (Worked shows (Shows s G) P) (sym w) p

pub returns-in-Two : goal.returns-in-Two
returns-in-Two c =
    let call = shown vec_items c.in-Base.call in
    rw (c.in-Base.is, c.in-Two.is) (worked (system_of Two) _ vec_items (Gives (system_of Two) call) (Stops (system_of Two) call) c.answer.result c.listed.result c.answer.ensures c.listed.ensures)

pub returns-in-Eleven : goal.returns-in-Eleven
returns-in-Eleven c =
    let call = shown vec_items c.in-Base.call in
    rw (c.in-Base.is, c.in-Eleven.is) (worked (system_of Eleven) _ vec_items (Gives (system_of Eleven) call) (Stops (system_of Eleven) call) c.answer-in-Eleven.result c.listed-in-Eleven.result c.answer-in-Eleven.ensures c.listed-in-Eleven.ensures)

pub returns-in-BabyBear : goal.returns-in-BabyBear
returns-in-BabyBear c =
    let call = shown vec_items c.in-Base.call in
    rw (c.in-Base.is, c.in-BabyBear.is) (worked (system_of BabyBear) _ vec_items (Gives (system_of BabyBear) call) (Stops (system_of BabyBear) call) c.answer-in-BabyBear.result c.listed-in-BabyBear.result c.answer-in-BabyBear.ensures c.listed-in-BabyBear.ensures)

pub returns-in-KoalaBear : goal.returns-in-KoalaBear
returns-in-KoalaBear c =
    let call = shown vec_items c.in-Base.call in
    rw (c.in-Base.is, c.in-KoalaBear.is) (worked (system_of KoalaBear) _ vec_items (Gives (system_of KoalaBear) call) (Stops (system_of KoalaBear) call) c.answer-in-KoalaBear.result c.listed-in-KoalaBear.result c.answer-in-KoalaBear.ensures c.listed-in-KoalaBear.ensures)

pub returns-in-Mersenne31 : goal.returns-in-Mersenne31
returns-in-Mersenne31 c =
    let call = shown vec_items c.in-Base.call in
    rw (c.in-Base.is, c.in-Mersenne31.is) (worked (system_of Mersenne31) _ vec_items (Gives (system_of Mersenne31) call) (Stops (system_of Mersenne31) call) c.answer-in-Mersenne31.result c.listed-in-Mersenne31.result c.answer-in-Mersenne31.ensures c.listed-in-Mersenne31.ensures)

pub returns-in-1 : goal.returns-in-1
returns-in-1 c =
    let call = system_shown vec_items c.in-System.call in
    rw (c.in-System.is, c.in-1.is) (worked (whole setting_1) _ vec_items (SystemGives setting_1 call) (SystemStops setting_1 call) c.with_conjugates.result c.listed-in-1.result c.with_conjugates.ensures c.listed-in-1.ensures)

pub returns-in-2 : goal.returns-in-2
returns-in-2 c =
    let call = system_shown vec_items c.in-System.call in
    rw (c.in-System.is, c.in-2.is) (worked (whole setting_2) _ vec_items (SystemGives setting_2 call) (SystemStops setting_2 call) c.with_conjugates-in-2.result c.listed-in-2.result c.with_conjugates-in-2.ensures c.listed-in-2.ensures)

pub returns-in-3 : goal.returns-in-3
returns-in-3 c =
    let call = system_shown vec_items c.in-System.call in
    rw (c.in-System.is, c.in-3.is) (worked (whole setting_3) _ vec_items (SystemGives setting_3 call) (SystemStops setting_3 call) c.with_conjugates-in-3.result c.listed-in-3.result c.with_conjugates-in-3.ensures c.listed-in-3.ensures)

pub returns-in-4 : goal.returns-in-4
returns-in-4 c =
    let call = system_shown vec_items c.in-System.call in
    rw (c.in-System.is, c.in-4.is) (worked (whole setting_4) _ vec_items (SystemGives setting_4 call) (SystemStops setting_4 call) c.with_conjugates-in-4.result c.listed-in-4.result c.with_conjugates-in-4.ensures c.listed-in-4.ensures)

pub returns-in-5 : goal.returns-in-5
returns-in-5 c =
    let call = system_shown vec_items c.in-System.call in
    rw (c.in-System.is, c.in-5.is) (worked (whole setting_5) _ vec_items (SystemGives setting_5 call) (SystemStops setting_5 call) c.with_conjugates-in-5.result c.listed-in-5.result c.with_conjugates-in-5.ensures c.listed-in-5.ensures)

pub returns-in-6 : goal.returns-in-6
returns-in-6 c =
    let call = system_shown vec_items c.in-System.call in
    rw (c.in-System.is, c.in-6.is) (worked (whole setting_6) _ vec_items (SystemGives setting_6 call) (SystemStops setting_6 call) c.with_conjugates-in-6.result c.listed-in-6.result c.with_conjugates-in-6.ensures c.listed-in-6.ensures)

pub returns-in-7 : goal.returns-in-7
returns-in-7 c =
    let call = system_shown vec_items c.in-System.call in
    rw (c.in-System.is, c.in-7.is) (worked (whole setting_7) _ vec_items (SystemGives setting_7 call) (SystemStops setting_7 call) c.with_conjugates-in-7.result c.listed-in-7.result c.with_conjugates-in-7.ensures c.listed-in-7.ensures)

pub returns-in-8 : goal.returns-in-8
returns-in-8 c =
    let call = system_shown vec_items c.in-System.call in
    rw (c.in-System.is, c.in-8.is) (worked (whole setting_8) _ vec_items (SystemGives setting_8 call) (SystemStops setting_8 call) c.with_conjugates-in-8.result c.listed-in-8.result c.with_conjugates-in-8.ensures c.listed-in-8.ensures)

pub returns-in-9 : goal.returns-in-9
returns-in-9 c =
    let call = system_shown vec_items c.in-System.call in
    rw (c.in-System.is, c.in-9.is) (worked (whole setting_9) _ vec_items (SystemGives setting_9 call) (SystemStops setting_9 call) c.without_conjugates.result c.listed-in-9.result c.without_conjugates.ensures c.listed-in-9.ensures)
