use Rattle.std.proofs.Common.{◌≡◌, ◌∙◌, lit<}
use Rattle.bases.specs.declared.modulus.Mersenne31.{Mersenne31}
use Rattle.bases.specs.declared.residue.Residue.{Residue}
use Rattle.bases.proofs.Held.{residue_path}
use Rattle.catalog.proofs.constants.FiveIBinomialConstantsComplex.w.Goals as goal

pub returns : goal.returns
returns c =
    let low : Residue Mersenne31 = record { value = 0; modulus = record {}; small = lit< tt } in
    let high : Residue Mersenne31 = record { value = 5; modulus = record {}; small = lit< tt } in
    let same : c.new.result.value ≡ record { c0 = low; c1 = high } =
    c.new.ensures ∙ (λ i. record { c0 = residue_path c.from.result low c.from.ensures i; c1 = residue_path c.from-2.result high c.from-2.ensures i }) in
    λ i. record { value = same i; below = record {}; rule = record {} }
