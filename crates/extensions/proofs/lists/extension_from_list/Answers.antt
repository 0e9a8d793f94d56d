use Rattle.std.proofs.Common.{◌≡◌, ℕ, suc, ◌+◌, ◌*◌, ◌/◌, ◌%◌, ◌<◌, ◌≤◌, min, [], ◌∷◌, length, take, drop, sym, ap, ◌∙◌, subst, arith, length-drop, length-take, rules}
use native.Mathlib.Nat as Nat
use Rattle.numbers.specs.Lists.{Refused}
use Rattle.extensions.specs.Extensions.{joined}
use Rattle.extensions.specs.Tuples.{each}
use Rattle.extensions.proofs.Written.{written_more}
use Rattle.extensions.proofs.Cuts.{part_within, joined_parts_list, uneven, refused_part}
use Rattle.extensions.proofs.lists.extension_from_list.Goals as goal

-- a length that the degree divides is so many parts
whole_parts : (n len : ℕ) → len % n ≡ 0 → len ≡ n * (len / n)
whole_parts n len e = sym (ap (λ r. n * (len / n) + r) (sym e) ∙ Nat.div-add-mod len n) ∙ Nat.add-zero (n * (len / n))

pub returns-then-numbers-degree-ne0 : goal.returns-then-numbers-degree-ne0
returns-then-numbers-degree-ne0 g c =
    uneven g.E.Coefficients.d g.S.System.sys g.met.S.System.lawful _ g.E.System.sys g.met.E.Extension.extends.0 c.args.numbers.now
    (λ e. c.if-numbers-degree-ne0.true (ap (λ n. length c.args.numbers.now % n) c.degree-degree.ensures ∙ e))

pub returns-in_err-from_list : goal.returns-in_err-from_list
returns-in_err-from_list g c =
    let s = g.S.System in
    let x = g.E.Coefficients in
    let n = c.degree-degree.result in
    let l = c.args.numbers.now in
    let p = length l / n in
    let k = c.loop-k.k in
    let len = whole_parts n (length l) c.if-numbers-degree-ne0.false in
    let within : k * p + p ≤ length l = part_within n p k (length l) c.loop-k-test.true len in
    let long : length (take p (drop (k * p) l)) ≡ p = length-take p (drop (k * p) l) ∙ ap (min p) (length-drop (k * p) l) ∙ omega arith in
    let lt : k < suc x.d = omega (arith, c.degree-degree.ensures, c.loop-k-test.true) in
    let refused = refused_part x.d s.sys g.met.S.System.lawful _ g.E.System.sys g.met.E.Extension.extends.0 l p k
    (len ∙ ap (λ m. m * p) c.degree-degree.ensures) lt long c.in_err-from_list.field-0.0
    (subst (λ m. Refused s.sys (take m (drop (k * p) l) ∷ []) c.in_err-from_list.field-0.0) (Nat.add-sub_cancel_left (k * p) p) c.in_err-from_list.ensures) in
    search rules

pub loop-k-preserved : goal.loop-k-preserved
loop-k-preserved g c =
    let s = g.S.System in
    let x = g.E.Coefficients in
    let p = length c.args.numbers.now / c.degree-degree.result in
    let k = c.loop-k.k in
    let lt : k < suc x.d = omega (arith, c.degree-degree.ensures, c.loop-k-test.true) in
    written_more s.mean s.sys.ops.zero (suc x.d) (λ j y. s.sys.list y ≡ take p (drop (j * p) c.args.numbers.now))
    (x.tuple c.loop-k.res) (x.tuple c.set_coefficient.new.self) k c.in_ok-from_list.field-0 c.set_coefficient.ensures lt
    c.loop-k.invariant (c.in_ok-from_list.ensures ∙ ap (λ n. take n (drop (k * p) c.args.numbers.now)) (Nat.add-sub_cancel_left (k * p) p))

pub returns : goal.returns
returns g c =
    let s = g.S.System in
    let x = g.E.Coefficients in
    let law = g.met.E.Extension.extends in
    let n = c.degree-degree.result in
    let l = c.args.numbers.now in
    let len = whole_parts n (length l) c.if-numbers-degree-ne0.false ∙ ap (λ m. m * (length l / n)) c.degree-degree.ensures in
    law.0.list (g.E.System.mean c.loop-k.res)
    ∙ ap (λ t. joined (suc x.d) s.sys.list t) (law.1 c.loop-k.res)
    ∙ joined_parts_list s.sys.list s.sys.ops.zero (length l / n) (suc x.d) (each (suc x.d) s.mean (x.tuple c.loop-k.res)) l len
    (λ k h. c.loop-k.invariant k (omega (arith, c.degree-degree.ensures, c.loop-k-test.false)))
