use Rattle.std.proofs.Common.{suc, subst}
use Rattle.extensions.specs.Conjugates.{RootLaw}
use Rattle.extensions.proofs.binomial.BinomialConjugateRule.frobenius.Goals as goal

pub returns-clause-conjugation : goal.returns-clause-conjugation
returns-clause-conjugation g c =
    let s = g.S.System in
    g.bound-9-met.roots (s.mean g.C.RootConstants.z)
    (subst (λ y. RootLaw s.sys.ops (suc g.V.Coefficients.d) (s.mean y)) c.z.ensures.value c.z.ensures.root)
