use Rattle.std.proofs.Common.{◌≡◌, suc, ◌*◌, ◌/◌, ◌%◌, ◌<◌, ◌≤◌, min, length, get_or, take, sym, ap, ◌∙◌, subst, arith, length-take}
use native.Mathlib.Nat as Nat
use Rattle.std.proofs.lemmas.List.{get_or-take, get_or_past}
use Rattle.extensions.specs.Extensions.{joined}
use Rattle.extensions.specs.Tuples.{each, entries}
use Rattle.extensions.proofs.Cuts.{size_positive, beyond_parts, shown_at}
use Rattle.extensions.proofs.lists.extension_number_at.Goals as goal
use Rattle.extensions.proofs.lists.extension_number_at.Goals.{then-place-ge-SHOWN-via-then-place-ge-SHOWN, then-place-ge-SHOWN-via-else-place-ge-SHOWN+then-power-degree}

pub nonzero_div-power : goal.nonzero_div-power
nonzero_div-power g c = let h = size_positive g.S.System.sys g.met.S.System.lawful in omega (arith, c.size-part.ensures)

pub returns-then-place-ge-SHOWN : goal.returns-then-place-ge-SHOWN
returns-then-place-ge-SHOWN g c =
    let place = c.args.place in
    let l = g.E.System.sys.list (g.E.System.mean c.args.a.now) in
    let past : min 65535 (length l) ≤ place → 0 ≡ get_or (take 65535 l) place 0 =
    λ h. sym (get_or_past (take 65535 l) place 0 (subst (λ n. n ≤ place) (sym (length-take 65535 l)) h)) in
    let size : length l ≡ suc g.E.Coefficients.d * g.S.System.sys.size = g.met.E.System.lawful.list_size (g.E.System.mean c.args.a.now) ∙ g.met.E.Extension.extends.0.size in
    elim c.then-place-ge-SHOWN.branch [
      | then-place-ge-SHOWN-via-then-place-ge-SHOWN w ↦ past (omega (arith, w.if-place-ge-SHOWN))
      | then-place-ge-SHOWN-via-else-place-ge-SHOWN+then-power-degree w ↦
          past
          (subst (λ n. min 65535 n ≤ place) (sym size)
          (beyond_parts (suc g.E.Coefficients.d) g.S.System.sys.size place (omega arith)
          (subst (λ m. suc g.E.Coefficients.d ≤ place / m) c.size-part.ensures (subst (λ m. m ≤ place / c.size-part.result) w.degree.ensures w.if-power-degree.true))))
    ]

pub nonzero_rem-place : goal.nonzero_rem-place
nonzero_rem-place g c = let h = size_positive g.S.System.sys g.met.S.System.lawful in omega (arith, c.size-part.ensures)

pub returns : goal.returns
returns g c =
    let s = g.S.System in
    let x = g.E.Coefficients in
    let law = g.met.E.Extension.extends in
    let place = c.args.place in
    let n = suc x.d in
    let t = each n s.mean (x.tuple c.args.a.now) in
    let part = c.size-part.result in
    let pos = size_positive s.sys g.met.S.System.lawful in
    let low : place < 65535 = omega (arith, c.if-place-ge-SHOWN.false) in
    let some : 0 < part = omega (arith, c.size-part.ensures) in
    let rest : place % part < 65535 = let h = Nat.mod-lt place some in omega (arith, c.size-part.ensures) in
    let lt : place / min s.sys.size 65535 < n = subst (λ m. place / m < n) c.size-part.ensures (omega (arith, c.degree.ensures, c.if-power-degree.false)) in
    c.number_at.ensures
    ∙ get_or-take 65535 (s.sys.list (s.mean c.coefficient.result)) (place % part) 0 rest
    ∙ ap (λ y. get_or (s.sys.list y) (place % part) 0) c.coefficient.ensures
    ∙ ap (λ m. get_or (s.sys.list (get_or (entries n t) (place / m) s.sys.ops.zero)) (place % m) 0) c.size-part.ensures
    ∙ sym (shown_at s.sys.list s.sys.ops.zero s.sys.size pos g.met.S.System.lawful.list_size n t place low lt)
    ∙ ap (λ l. get_or l place 0) (sym (law.0.list (g.E.System.mean c.args.a.now) ∙ ap (joined n s.sys.list) (law.1 c.args.a.now)))
    ∙ sym (get_or-take 65535 (g.E.System.sys.list (g.E.System.mean c.args.a.now)) place 0 low)
