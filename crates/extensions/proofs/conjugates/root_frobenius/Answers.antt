use Rattle.std.proofs.Common.{◌≡◌, suc, ◌<◌, sym, ap, ◌∙◌, ap₂, subst, add-one, arith}
use Rattle.algebra.specs.Ring.{power}
use Rattle.extensions.specs.Tuples.{each}
use Rattle.extensions.proofs.Roots.{root_conjugation}
use Rattle.extensions.proofs.Written.{at, written_more, tabulated}
use Rattle.extensions.proofs.conjugates.root_frobenius.Goals as goal

pub loop-k-init : goal.loop-k-init
loop-k-init g c =
    let s = g.S.System in
    let o = s.sys.ops in
    let ring = g.met.S.System.lawful.ring in
    let x = g.E.Coefficients in
    let at' = at s.mean o.zero (suc x.d) in
    let a = x.tuple c.args.a.now in
    let z = s.mean c.args.z.now in
    let p = power o z in
    let lt : 1 < suc x.d = omega (arith, g.met.E.Coefficients.several) in (
      ap (o.mul z) (sym (ring.mul-one z)),
      written_more s.mean o.zero (suc x.d) (λ j y. y ≡ o.mul (at' a j) (p j)) a (x.tuple c.set_coefficient.new.self) 1 c.mul.result
          c.set_coefficient.ensures lt
          (λ j h. let e : j ≡ 0 = omega arith in subst (λ i. at' a i ≡ o.mul (at' a i) (p i)) (sym e) (sym (ring.mul-one (at' a 0))))
          (c.mul.ensures ∙ ap₂ o.mul c.coefficient.ensures (sym (ring.mul-one z))),
    )

pub loop-k-preserved : goal.loop-k-preserved
loop-k-preserved g c =
    let s = g.S.System in
    let o = s.sys.ops in
    let x = g.E.Coefficients in
    let at' = at s.mean o.zero (suc x.d) in
    let a = x.tuple c.args.a.now in
    let z = s.mean c.args.z.now in
    let k = c.loop-k.k in
    let p = power o z in
    let lt : k < suc x.d = omega (arith, c.degree-k-end.ensures) in
    let here : s.mean c.next_power-power.result ≡ p k = c.next_power-power.ensures c.loop-k.invariant.0 in (
      ap (o.mul z) here ∙ ap p (sym (add-one k)),
      written_more s.mean o.zero (suc x.d) (λ j y. y ≡ o.mul (at' a j) (p j)) (x.tuple c.loop-k.res) (x.tuple c.set_coefficient-in-loop-k.new.self) k
          c.mul-in-loop-k.result c.set_coefficient-in-loop-k.ensures lt c.loop-k.invariant.1
          (c.mul-in-loop-k.ensures ∙ ap₂ o.mul c.coefficient-in-loop-k.ensures here),
    )

pub returns : goal.returns
returns g c =
    let s = g.S.System in
    let x = g.E.Coefficients in
    record {
      image = tabulated (suc x.d) _ (each (suc x.d) s.mean (x.tuple c.loop-k.res)) s.sys.ops.zero
          (λ j h. c.loop-k.invariant.1 j (omega (arith, c.degree-k-end.ensures, c.loop-k-test.false)));
      conjugation = λ law w. root_conjugation s.sys.ops g.met.S.System.lawful.ring (s.mean c.args.z.now) x.d law w;
    }
