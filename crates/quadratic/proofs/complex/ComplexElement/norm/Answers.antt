use Rattle.std.proofs.Common.{◌≡◌, [], ◌∷◌, sym, ap, ◌∙◌}
use Rattle.algebra.specs.Expr.{var, 𝟎, 𝟏, ⊟, ◌⊞◌, ◌⊠◌, exprs, same, among}
use Rattle.extensions.specs.Schoolbook.{binomial}
use Rattle.extensions.proofs.Tuples.{vars, solves}
use Rattle.quadratic.proofs.complex.ComplexElement.norm.Goals as goal

pub returns : goal.returns
unfolding same
returns g c =
    let m = g.S.System.mean in
    let o = g.S.System.sys.ops in
    let a0 = m (g.Self.ComplexElement.parts c.args.self.now).c0 in
    let a1 = m (g.Self.ComplexElement.parts c.args.self.now).c1 in
    let squares : m c.add.result ≡ o.add (o.mul a0 a0) (o.mul a1 a1) = cc in
    record {
      squares = squares;
      product =
          ap (λ w. binomial 2 o w (a0, (a1, tt)) (a0, (o.neg a1, tt))) g.met.Self.ComplexElement.negative
          ∙ solves o g.met.S.System.lawful.ring (among o (a0 ∷ a1 ∷ [])) 2
          (binomial 2 exprs (⊟ 𝟏) (vars 2 0) (var 0, (⊟ (var 1), tt))) ((var 0 ⊠ var 0) ⊞ (var 1 ⊠ var 1), (𝟎, tt)) tt
          ∙ (λ i. (sym squares i, (o.zero, tt)));
    }
