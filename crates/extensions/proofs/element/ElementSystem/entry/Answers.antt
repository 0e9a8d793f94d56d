use Rattle.std.proofs.Common.{suc, sym, ap, ◌∙◌}
use Rattle.extensions.specs.Conjugates.{embed}
use Rattle.extensions.proofs.Lawful.{multiple_extend}
use Rattle.extensions.proofs.element.ElementSystem.entry.Goals as goal

pub returns : goal.returns
returns g c =
    let s = g.S.System in
    let d = g.V.Coefficients.d in
    let e = c.in_ok-entry.ensures in (
      e.0,
      c.from_base.ensures ∙ ap (embed d s.sys.ops) e.1
          ∙ sym (multiple_extend d s.sys.ops g.met.S.System.lawful.ring (g.R.Rule.product (suc d) s.sys.Elem s.sys.ops s.mean) c.args.n),
    )
