use Rattle.std.proofs.Common.{◌≡◌, ◌*◌, ◌%◌, ◌<◌, sym, ap, ◌∙◌, mod-lt, mod-eq_of_lt, mul-zero, inl, inr, mul-one, arith, rules}
use native.Mathlib.Nat.{mod-mod, mod_self}
use Rattle.std.proofs.lemmas.Bool.Decides.{eqb_tells}
use Rattle.bases.proofs.Divisors.{common_start, common_step, no_inverse, euclid_step}
use Rattle.bases.proofs.euclid.inverse_modulo.Goals as goal

pub loop-r1-init : goal.loop-r1-init
loop-r1-init c =
    let m = c.args.m in
    let a = c.args.a in
    let pos : 0 < m = omega arith in (
      omega arith,
      mod-lt a pos,
      pos,
      omega arith,
      ap (λ t. t % m) (mul-zero a) ∙ mod-eq_of_lt pos ∙ sym (mod_self m),
      ap (λ t. t % m) (mul-one a) ∙ sym (mod-mod a m),
      common_start a m,
    )

pub loop-r1-preserved : goal.loop-r1-preserved
loop-r1-preserved c =
    let m = c.args.m in
    let a = c.args.a in
    let l = c.loop-r1 in
    let inv = c.loop-r1.invariant in
    let pos : 0 < m = omega arith in
    let some : 0 < l.r1 = omega arith in
    let small : l.r0 % l.r1 < l.r1 = mod-lt l.r0 some in (
      omega arith,
      omega arith,
      omega arith,
      mod-lt _ pos,
      inv.5,
      euclid_step m c.requires.low a l.t0 l.t1 l.r0 l.r1 inv.4 inv.5,
      common_step a m l.r0 l.r1 inv.6,
    )

pub returns : goal.returns
returns c =
    let m = c.args.m in
    let a = c.args.a in
    let t0 = c.loop-r1.t0 in
    let inv = c.loop-r1.invariant in
    let zero : c.loop-r1.r1 ≡ 0 = search rules in
    let some : c.loop-r1.r0 ≡ 1 → (t0 < m) × ((a * t0) % m ≡ 1) = λ last. (inv.2, inv.4 ∙ ap (λ t. t % m) last ∙ mod-eq_of_lt c.requires.low) in
    let none = λ (more : c.loop-r1.r0 ≡ 1 → ⊥). no_inverse a m c.loop-r1.r0 c.loop-r1.r1 zero more inv.6 in
    rw c.then_some.ensures
    (elim (eqb_tells c.loop-r1.r0 1) [ inl e ↦ rw e.0 (some e.1) | inr e ↦ rw e.0 (none e.1) ])
