use Rattle.std.proofs.Common.{◌<◌, ◌≤◌, [], ◌∷◌, ◌++◌, map, length, get_or, take, sym, refl, ap, ◌∙◌, ap₂, arith, length-set, take_all}
use Rattle.std.proofs.lemmas.List.{take_more, take_more_set, map_push}
use Rattle.reading.specs.Sheet.{said, changed, told, after, answers}
use Rattle.reading.specs.Sound.{sheet}
use Rattle.reading.specs.declared.calls.Call.TheVariants.{Append}
use Rattle.sheets.proofs.Sequences.{after_more, answers_more}
use Rattle.sheets.proofs.runs.play.Goals as goal

pub loop-i-init : goal.loop-i-init
unfolding after answers
loop-i-init g c = (refl, refl, refl, c.requires)

pub loop-i-preserved : goal.loop-i-preserved
loop-i-preserved g c =
    let s = g.S.System.sys in
    let m = g.S.System.mean in
    let x = m c.args.reading.now.point.element in
    let L = sheet c.args.reading.now in
    let i = c.loop-i.i in
    let cs = c.args.calls.now in
    let inv = c.loop-i.invariant in
    let k = get_or cs i (Append 0) in
    let here : i < length cs = omega arith in
    let more = take_more cs i (Append 0) here in
    let room : i < length c.loop-i.out = omega arith in
    let wrote = take_more_set c.loop-i.out i c.call.result room in
    let list = c.call.ensures.list ∙ ap (λ l. changed s l k) inv.1 in
    let answer = c.call.ensures.answer ∙ ap₂ (λ y l. told s (m y) l k) inv.0 inv.1 in (
      c.call.ensures.point.element ∙ inv.0,
      list ∙ sym (ap (after s L) more ∙ after_more s L (take i cs) k),
      ap (map (said m)) wrote ∙ map_push (said m) (take i c.loop-i.out) c.call.result ∙ ap₂ (λ l a. l ++ (a ∷ [])) inv.2 answer
          ∙ sym (ap (answers s x L) more ∙ answers_more s x L (take i cs) k),
      length-set c.loop-i.out i c.call.result ∙ inv.3,
    )

pub returns : goal.returns
returns g c =
    let s = g.S.System.sys in
    let m = g.S.System.mean in
    let x = m c.args.reading.now.point.element in
    let L = sheet c.args.reading.now in
    let inv = c.loop-i.invariant in
    let all : length c.args.calls.now ≤ c.loop-i.i = omega arith in
    let calls = take_all c.loop-i.i c.args.calls.now all in
    let room : length c.loop-i.out ≤ c.loop-i.i = omega arith in
    let out = take_all c.loop-i.i c.loop-i.out room in
    record {
      point = inv.0;
      list = inv.1 ∙ ap (after s L) calls;
      answers = sym (ap (map (said m)) out) ∙ inv.2 ∙ ap (answers s x L) calls;
    }
