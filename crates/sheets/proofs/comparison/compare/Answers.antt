use Rattle.std.proofs.Common.{◌≡◌, ◌≤◌, Bool, true, false, T, ◌&&◌, map, length, take, sym, ap, ◌∙◌, subst, arith, take_all, rules}
use Rattle.std.proofs.lemmas.List.{length-map}
use Rattle.std.proofs.lemmas.Result.{err_from_is_err_and}
use Rattle.algebra.specs.Polynomial.{Each}
use Rattle.algebra.specs.Units.{IsUnit}
use Rattle.reading.specs.Sheet.{most, sum_of}
use Rattle.sheets.specs.Comparisons.{SameFigures}
use Rattle.sheets.proofs.Points.{each_more_map, each_less_map, each_at_map}
use Rattle.sheets.proofs.Sheets.{sheets_same, same_sheet}
use Rattle.sheets.proofs.comparison.compare.Goals as goal

and_parts : (a b : Bool) → T (a && b) → T a × T b
and_parts true b h = (tt, h)
and_parts false b h = absurd h

and_both : (a b : Bool) → T a → T b → T (a && b)
and_both true b h k = k
and_both false b h k = absurd h

pub returns-in_err-left_figure-clause-refused : goal.returns-in_err-left_figure-clause-refused
returns-in_err-left_figure-clause-refused g c =
    let s = g.S.System.sys in
    let p = err_from_is_err_and c.from_residual-in_err-left_figure.result c.from_residual-in_err-left_figure.ensures.1 in
    let none = c.in_err-left_figure.ensures in
    let units : Each (IsUnit s.ops) (map g.S.System.mean c.args.points.now) → ⊥ = λ each.
    let unit = each_at_map (IsUnit s.ops) g.S.System.mean c.args.points.now c.loop-x.x-index c.x-item.result c.loop-x-test.true c.x-item.is each in
    none.1 unit.0 unit.1 in
    let fits_left : length c.args.left.now ≤ most = search rules in
    let fits_right : length c.args.right.now ≤ most = search rules in
    rw (p.1, p.2, none.0) ((c.in_ok-check_limit.ensures, c.in_ok-check_limit-2.ensures), (fits_left, fits_right), units)

pub loop-x-preserved : goal.loop-x-preserved
loop-x-preserved g c =
    let s = g.S.System.sys in
    let m = g.S.System.mean in
    let L = c.args.left.now in
    let M = c.args.right.now in
    let points = c.args.points.now in
    let i = c.loop-x.x-index in
    let x = c.x-item.result in
    let here = c.loop-x-test.true in
    let read = c.x-item.is in
    let f = c.in_ok-left_figure.ensures in
    let h = c.in_ok-right_figure.ensures in
    let inv = c.loop-x.invariant in
    let Same : s.Elem → Type 0 = λ y. sum_of s y L ≡ sum_of s y M in (
      each_more_map (IsUnit s.ops) m points i x here read inv.0 f.0,
      λ yes.
          let both = and_parts c.loop-x.alike c.alike-alike.result yes in
          let same = inv.1 both.0 in
          let told = c.alike-alike.ensures.equal both.1 in
          record { counts = same.counts; sums = each_more_map Same m points i x here read same.sums (sym f.3 ∙ told.sums ∙ h.3) },
      λ same.
          let sums = each_less_map Same m points i x here read same.sums in
          let before = inv.2 (record { counts = same.counts; sums = sums.0 }) in
          let here = c.alike-alike.ensures.different (record { elements = ap m (f.1 ∙ sym h.1); counts = f.2 ∙ same.counts ∙ sym h.2; sums = f.3 ∙ sums.1 ∙ sym h.3 }) in
          and_both c.loop-x.alike c.alike-alike.result before here,
    )

pub returns-clause-equal : goal.returns-clause-equal
returns-clause-equal g c = λ yes few apart.
    let s = g.S.System.sys in
    let L = c.args.left.now in
    let M = c.args.right.now in
    let ps = map g.S.System.mean c.args.points.now in
    let sized : length ps ≡ length c.args.points.now = length-map c.args.points.now g.S.System.mean in
    let all : length ps ≤ c.loop-x.x-index = omega arith in
    let enough : length L ≤ length ps = omega arith in
    let same = subst (λ l. SameFigures s l L M) (take_all c.loop-x.x-index ps all) (c.loop-x.invariant.1 yes) in
    sheets_same s g.met.S.System.lawful L M ps c.in_ok-check_limit.ensures c.in_ok-check_limit-2.ensures same.counts enough apart same.sums

pub returns-clause-different : goal.returns-clause-different
returns-clause-different g c = λ e.
    let points = take c.loop-x.x-index (map g.S.System.mean c.args.points.now) in
    c.loop-x.invariant.2 (same_sheet g.S.System.sys c.args.left.now c.args.right.now points e)
