use Rattle.std.proofs.Common.{◌≡◌, ◌/◌, ◌^◌, ◌<◌, sym, ap, ◌∙◌, subst, mod-lt, arith, lit<}
use native.Mathlib.Nat.{div-eq_of_lt}
use Rattle.std.proofs.lemmas.Nat.{and_mask}
use Rattle.algebra.specs.Ring.{power}
use Rattle.numbers.proofs.Exponents.{power_turn}
use Rattle.numbers.proofs.powers.exp_u64.Goals as goal
use Rattle.numbers.proofs.powers.exp_u64.Goals.{then-exponent-j-ne0, else-exponent-j-ne0}

pub loop-j-preserved : goal.loop-j-preserved
loop-j-preserved g c =
    let s = g.S.System in
    let L = g.met.S.System.lawful.ring in
    let e = c.args.exponent in
    let j = c.loop-j.j in
    let two : 0 < 2 = lit< tt in
    let mask = and_mask (e / 2 ^ j) 1 in
    let turn = power_turn s.sys.ops L (s.mean c.loop-j.product) (s.mean c.if-exponent-j-ne0.product) (s.mean c.loop-j.current) (s.mean c.square-current.result) _ e j in
    elim c.if-exponent-j-ne0.branch [
      | then-exponent-j-ne0 w ↦
          turn 1 c.loop-j.invariant (omega (arith, mask, w.if-exponent-j-ne0.true, mod-lt (e / 2 ^ j) two))
          (cc (w.product-is, w.mul-product.ensures, L.mul-one (s.mean c.loop-j.current)))
          c.square-current.ensures
      | else-exponent-j-ne0 w ↦
          turn 0 c.loop-j.invariant (omega (arith, mask, w.if-exponent-j-ne0.false)) (cc (w.product-is, L.mul-one (s.mean c.loop-j.product))) c.square-current.ensures
    ]

pub returns : goal.returns
returns g c =
    let s = g.S.System in
    let L = g.met.S.System.lawful.ring in
    let j-is : c.loop-j.j ≡ c.bits_u64-j-end.result = omega arith in
    let none : c.args.exponent / 2 ^ c.loop-j.j ≡ 0 =
    subst (λ t. c.args.exponent / 2 ^ t ≡ 0) (sym j-is) (div-eq_of_lt c.bits_u64-j-end.ensures.above) in
    sym (L.mul-one (s.mean c.loop-j.product))
    ∙ ap (λ t. s.sys.ops.mul (s.mean c.loop-j.product) (power s.sys.ops (s.mean c.loop-j.current) t)) (sym none)
    ∙ c.loop-j.invariant
