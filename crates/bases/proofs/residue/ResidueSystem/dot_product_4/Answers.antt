use Rattle.std.proofs.Common.{◌∙◌}
use Rattle.bases.proofs.Remainders.{reduced_dot}
use Rattle.bases.proofs.residue.ResidueSystem.dot_product_4.Goals as goal

pub returns : goal.returns
returns g c =
    let M = g.M.Modulus in
    let meant =
    reduced_dot M.MODULUS M.bounds.low c.from-m.result (c.from-m.ensures ∙ c.MODULUS.ensures)
    c.args.a0.now.value c.args.b0.now.value c.args.a1.now.value c.args.b1.now.value
    c.args.a2.now.value c.args.b2.now.value c.args.a3.now.value c.args.b3.now.value in
    cc (
      c.held.ensures,
      c.from.ensures,
      c.from-2.ensures,
      c.from-3.ensures,
      c.from-4.ensures,
      c.from-5.ensures,
      c.from-6.ensures,
      c.from-7.ensures,
      c.from-8.ensures,
      meant,
    )
