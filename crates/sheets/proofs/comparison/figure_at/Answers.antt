use Rattle.std.proofs.Common.{◌≡◌, ℕ, ◌<◌, [], ◌∷◌, ◌++◌, length, get_or, take, sym, refl, ap, ◌∙◌, ap₂, arith, length-take, take_all}
use Rattle.std.proofs.lemmas.List.{take_more}
use Rattle.reading.specs.Sheet.{most, sum_of}
use Rattle.reading.specs.Sound.{sheet}
use Rattle.reading.proofs.Refusals.{append_taken}
use Rattle.reading.proofs.Sums.{below_at}
use Rattle.sheets.proofs.comparison.figure_at.Goals as goal

pub loop-e-init : goal.loop-e-init
loop-e-init g c = (refl, c.begin-reading.ensures.empty)

pub loop-e-preserved : goal.loop-e-preserved
loop-e-preserved g c =
    let i = c.loop-e.e-index in
    let L = c.args.entries.now in
    let inv = c.loop-e.invariant in (
      c.append.ensures.point.element ∙ inv.0,
      c.in_ok-append.ensures.answer.1.list ∙ ap (λ l. l ++ (get_or L i 0 ∷ [])) inv.1 ∙ sym (take_more L i 0 c.loop-e-test.true),
    )

pub returns-in_err-append : goal.returns-in_err-append
returns-in_err-append g c =
    let s = g.S.System.sys in
    let i = c.loop-e.e-index in
    let L = c.args.entries.now in
    let r = sheet c.loop-e.reading in
    let under = below_at s.limit L i c.requires.below c.loop-e-test.true in
    let sized : length r ≡ length (take i L) = ap length c.loop-e.invariant.1 in
    let room : length r < most = omega (arith, length-take i L, c.requires.fits) in
    let refused = c.in_err-append.ensures.answer.refused in
    let accepted = append_taken s r (get_or L i 0) under room in
    let z : ◌≡◌ {A = ℕ} 0 1 = cc in
    absurd (omega arith)

pub returns : goal.returns
returns g c =
    let s = g.S.System.sys in
    let m = g.S.System.mean in
    let inv = c.loop-e.invariant in
    let drawn = c.in_ok-draw.ensures in
    let point = inv.0 ∙ c.begin-reading.ensures.point.0 ∙ drawn.0 in
    let list = inv.1 ∙ take_all c.loop-e.e-index c.args.entries.now c.loop-e-test.false in (
      (m c.in_ok-draw.field-0.inverse, drawn.1),
      c.close.ensures.element ∙ point,
      c.close.ensures.count ∙ ap length list,
      c.close.ensures.sum ∙ ap₂ (λ y L. sum_of s (m y) L) point list,
    )
