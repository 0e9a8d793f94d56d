use Rattle.std.proofs.Common.{◌≡◌, ℕ, List, length, map, vec_items, get_or, take, sym, subst, refl, arith, rules, tests}
use Rattle.std.specs.Prelude.{IfOk}
use Rattle.std.specs.List.{range_with_len}
use Rattle.std.proofs.lemmas.Iterator.{YieldsList-from_map, YieldsList-from_range, items_from_collect}
use Rattle.std.proofs.lemmas.Iterator.Consumers.{YieldsList-at}
use Rattle.std.proofs.lemmas.List.{get_or-take}
use Rattle.std.proofs.lemmas.List.FromFn.{fill_by_all}
use Rattle.calculator.proofs.evaluate.numbers.Goals as goal

-- the numbers at the places, in order, are the list
pub returns : goal.returns
returns g c =
    let list = g.S.System.sys.list (g.S.System.mean c.args.x.now) in
    let n = c.size.result in
    let shown : ℕ → ℕ = λ i. get_or (take 65535 list) i 0 in
    let long : length list ≡ n = omega (arith, c.size.ensures, g.met.S.System.lawful.list_size (g.S.System.mean c.args.x.now), c.requires) in
    let all : list ≡ map shown (range_with_len 0 n) = fill_by_all shown list n 0 long (λ k l. sym (get_or-take 65535 list k 0 (omega (arith, c.size.ensures)))) in
    subst (λ (l : List ℕ). IfOk c.collect.result (λ v. vec_items v ≡ l)) (sym all)
    (items_from_collect c.collect.result c.collect.ensures.ran
    (YieldsList-from_map _ shown (YieldsList-at c.map.ensures.source (YieldsList-from_range 0 n n refl (omega arith))) c.map.ensures.closure (λ x r q k. search (rules, tests))))
