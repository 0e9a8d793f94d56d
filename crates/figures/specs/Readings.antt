-- System 8: the residues modulo 11 with a root X of X^5 = 2.
use Rattle.std.specs.Prelude.{◌≡◌, ℕ, List, Ok, Err, Result}
use Rattle.std.proofs.Common.{lit≤}
use Rattle.bases.specs.Residues.{res}
use Rattle.bases.specs.declared.residue.Residue.{Residue}
use Rattle.catalog.specs.Catalog.{system_8}
use Rattle.quintic.specs.Quintuples.{quintuple}
use Rattle.quintic.specs.declared.quintuple.Quintuple.{Quintuple}
use Rattle.extensions.specs.declared.element.Element.{Element}
use Rattle.numbers.specs.declared.refusal.Refusal.{Refusal}
use Rattle.reading.specs.declared.states.Figure.{Figure}

abbrev pub X : system_8.Elem
X = (res 11 (lit≤ tt) 0, (res 11 (lit≤ tt) 1, (res 11 (lit≤ tt) 0, (res 11 (lit≤ tt) 0, (res 11 (lit≤ tt) 0, tt)))))

-- the element that a value of the type means
abbrev pub mean_of : {M R : Type 0} → Element (Residue M) (Quintuple (Residue M)) R → system_8.Elem
mean_of a = quintuple (λ r. res 11 (lit≤ tt) r.value) a.value

-- the count and the sum that a figure shows, the sum as a list
pub record Shows {M R : Type 0} (f : Figure (Element (Residue M) (Quintuple (Residue M)) R)) (n : ℕ) (l : List ℕ) : Type 0 where
  pub count : f.count ≡ n
  pub sum : system_8.list (mean_of f.sum) ≡ l

-- a figure is answered, and shows these
abbrev pub Leaves : {M R : Type 0} → Result (Figure (Element (Residue M) (Quintuple (Residue M)) R)) Refusal → ℕ → List ℕ → Type 0
Leaves (Ok f) n l = Shows f n l
Leaves (Err q) n l = ⊥
