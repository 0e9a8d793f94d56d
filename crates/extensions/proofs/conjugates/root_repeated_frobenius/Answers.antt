use Rattle.std.proofs.Common.{suc, ◌%◌, ap, ◌∙◌}
use Rattle.algebra.specs.Ring.{power}
use Rattle.extensions.specs.Conjugates.{root_frobenius_map}
use Rattle.extensions.specs.Tuples.{each}
use Rattle.extensions.proofs.Roots.{root_repeated, root_modulo}
use Rattle.extensions.proofs.conjugates.root_repeated_frobenius.Goals as goal

pub returns : goal.returns
returns g c law =
    let s = g.S.System in
    let o = s.sys.ops in
    let x = g.E.Coefficients in
    let n = suc x.d in
    let L = g.met.S.System.lawful.ring in
    let z = s.mean c.args.z.now in
    let a = each n s.mean (x.tuple c.args.a.now) in
    c.root_frobenius.ensures.image
    ∙ ap (λ t. root_frobenius_map n o t a)
    (c.exp_u64-z0.ensures ∙ ap (λ k. power o z (c.args.count % k)) c.degree.ensures ∙ root_modulo o L z n c.args.count law)
    ∙ root_repeated o L z n c.args.count a
