use Rattle.std.proofs.Common.{suc, refl, inl, inr}
use Rattle.extensions.specs.Tuples.{each}
use Rattle.calculator.proofs.systems.without_conjugates.Goals as goal

pub returns-in-Scale : goal.returns-in-Scale
returns-in-Scale g c = rw c.in-Scale.is (rw (c.deref.ensures.value, c.deref-in-Scale.ensures.value) at c.scale.ensures)

-- the list is an element, and there are no conjugates
pub returns-in_ok-from_list-in-Frobenius : goal.returns-in_ok-from_list-in-Frobenius
returns-in_ok-from_list-in-Frobenius g c =
    let a = each (suc g.V.Coefficients.d) g.S.System.mean (g.V.Coefficients.tuple c.in_ok-from_list-in-Frobenius.field-0.value) in
    let means = rw c.deref-in-Frobenius.ensures.value at c.in_ok-from_list-in-Frobenius.ensures in
    elim c.in-Frobenius.is [ inl f ↦ rw f.1 (inr (a, means, refl)) | inr i ↦ rw i (inr (a, means, refl)) ]
