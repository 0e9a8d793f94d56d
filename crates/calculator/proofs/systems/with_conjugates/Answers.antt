use Rattle.std.proofs.Common.{◌≡◌, ℕ, suc, List, Some, None, Option, refl, inr}
use Rattle.std.specs.Prelude.{ok_or}
use Rattle.numbers.specs.Systems.{Sys}
use Rattle.numbers.specs.declared.refusal.Refusal.TheVariants.{NoInverse}
use Rattle.extensions.specs.Conjugates.{PseudoInverse, NoPseudoInverse}
use Rattle.extensions.specs.Layers.{Products}
use Rattle.extensions.specs.Tuples.{Tuple, each}
use Rattle.calculator.specs.Settings.{ruled, whole}
use Rattle.calculator.specs.Results.{Settled}
use Rattle.calculator.specs.declared.command.SystemCall.TheVariants.{ConjugateInverse}
use Rattle.calculator.proofs.systems.with_conjugates.Goals as goal

-- the conjugate inverse where there is one, and its refusal where there is none
inverse : {S X : Type 0} (d : ℕ) (B : Sys) (m : S → B.Elem) (p : Products S) (φ : Tuple (suc d) B.Elem → Tuple (suc d) B.Elem) (mean : X → Tuple (suc d) B.Elem)
    (l : List ℕ) (a : Tuple (suc d) B.Elem) (o : Option X) → (whole (ruled d B m p (Some φ))).list a ≡ l
    → elim o as (λ v. Type 0) [ Some b ↦ PseudoInverse (whole (ruled d B m p (Some φ))).ops a (mean b) | None ↦ NoPseudoInverse (whole (ruled d B m p (Some φ))).ops a ]
    → Settled (ruled d B m p (Some φ)) mean (ConjugateInverse l) (ok_or o NoInverse)
inverse d B m p φ mean l a (Some b) e h = (a, e, h)
inverse d B m p φ mean l a None e h = inr (a, e, (h, refl))

pub returns-in-Scale : goal.returns-in-Scale
returns-in-Scale g c = rw c.in-Scale.is (rw (c.deref.ensures.value, c.deref-in-Scale.ensures.value) at c.scale.ensures)

pub returns-in_ok-from_list-in-Frobenius : goal.returns-in_ok-from_list-in-Frobenius
returns-in_ok-from_list-in-Frobenius g c =
    rw c.in-Frobenius.is (
      each (suc g.V.Coefficients.d) g.S.System.mean (g.V.Coefficients.tuple c.in_ok-from_list-in-Frobenius.field-0.value),
      rw c.deref-in-Frobenius.ensures.value at c.in_ok-from_list-in-Frobenius.ensures,
      c.repeated_frobenius.ensures,
    )

pub returns-in_ok-from_list-in-ConjugateInverse : goal.returns-in_ok-from_list-in-ConjugateInverse
returns-in_ok-from_list-in-ConjugateInverse g c =
    rw (c.in-ConjugateInverse.is, c.ok_or.ensures.value)
    (inverse g.V.Coefficients.d g.S.System.sys g.S.System.mean g.R.Rule.product (g.R.ConjugateRule.conjugate (suc g.V.Coefficients.d) g.S.System.sys.Elem g.S.System.sys.ops g.S.System.mean)
    (λ x. each (suc g.V.Coefficients.d) g.S.System.mean (g.V.Coefficients.tuple x.value)) _ _ c.pseudo_inv.result (rw c.deref-in-ConjugateInverse.ensures.value at c.in_ok-from_list-in-ConjugateInverse.ensures) c.pseudo_inv.ensures)
