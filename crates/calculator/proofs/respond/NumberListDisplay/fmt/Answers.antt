use Rattle.std.proofs.Common.{◌≡◌, [], ◌∷◌, ◌++◌, take, decimal, sym, ap, ◌∙◌, rules}
use Rattle.std.specs.List.{flat_map}
use Rattle.std.proofs.lemmas.Grind.{put_three}
use Rattle.std.proofs.lemmas.List.{take_all}
use Rattle.calculator.specs.Text.{listing}
use Rattle.calculator.proofs.Shown.{listing_more}
use Rattle.calculator.proofs.respond.NumberListDisplay.fmt.Goals as goal

pub returns-clause-writes : goal.returns-clause-writes
returns-clause-writes g c plain ok =
    let first = c.in-Some.first.now in
    let rest = c.in-Some.rest.now in
    let numbers : c.args.self.now.0.now ≡ first ∷ rest = c.in-Some.ensures.cases.0 in
    let all : 91 ∷ (decimal first ++ (flat_map (λ n. 44 ∷ decimal n) (take c.loop-n.n-index rest) ++ (93 ∷ []))) ≡ listing c.args.self.now.0.now =
    ap (λ ns. 91 ∷ (decimal first ++ (flat_map (λ n. 44 ∷ decimal n) ns ++ (93 ∷ [])))) (take_all c.loop-n.n-index rest c.loop-n-test.false)
    ∙ sym (listing_more first rest) ∙ ap listing (sym numbers) in
    let opened = c.in_ok-write.ensures.writes plain (search rules) in
    let so_far = c.loop-n.invariant opened.plain in
    let closed = c.write-3.ensures.writes so_far.plain ok in
    put_three _ _ _ _ _ _ _ _ _ opened so_far closed all
