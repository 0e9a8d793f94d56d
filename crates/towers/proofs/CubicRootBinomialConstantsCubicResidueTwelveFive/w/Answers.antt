use Rattle.std.proofs.Common.{◌≡◌, ◌∙◌, lit<}
use Rattle.bases.specs.declared.residue.Residue.{Residue}
use Rattle.bases.proofs.Held.{residue_path}
use Rattle.towers.specs.declared.Twelve.{Twelve}
use Rattle.towers.proofs.CubicRootBinomialConstantsCubicResidueTwelveFive.w.Goals as goal

pub returns : goal.returns
returns c =
    let none : Residue Twelve = record { value = 0; modulus = record {}; small = lit< tt } in
    let unit : Residue Twelve = record { value = 1; modulus = record {}; small = lit< tt } in
    let same : c.new.result.value ≡ record { c0 = none; c1 = unit; c2 = none } =
    c.new.ensures ∙ (λ i. record { c0 = residue_path c.from.result none c.from.ensures i; c1 = residue_path c.from-2.result unit c.from-2.ensures i; c2 = residue_path c.from-3.result none c.from-3.ensures i }) in
    λ i. record { value = same i; below = record {}; rule = record {} }
