-- The table of worked figures.
use Rattle.std.specs.Prelude.{◌≡◌, ℕ, ◌≤◌, [], ◌∷◌, None}
use Rattle.std.proofs.Common.{lit≤}
use Rattle.bases.specs.Residues.{Res, res}
use Rattle.bases.specs.declared.bit.Bit.{Bit}
use Rattle.bases.specs.declared.residue.Residue.{Residue}
use Rattle.catalog.specs.Catalog.{system_1, system_2, system_3, system_5, system_7, system_8, system_9}
use Rattle.cubic.specs.Triples.{triple}
use Rattle.cubic.specs.declared.triple.Triple.{Triple}
use Rattle.extensions.specs.declared.element.Element.{Element}
use Rattle.octic.specs.Octuples.{octuple}
use Rattle.octic.specs.declared.octuple.Octuple.{Octuple}
use Rattle.quadratic.specs.Pairs.{pair}
use Rattle.quadratic.specs.declared.pair.Pair.{Pair}
use Rattle.quartic.specs.Quadruples.{quadruple}
use Rattle.quartic.specs.declared.quadruple.Quadruple.{Quadruple}
use Rattle.quintic.specs.Quintuples.{quintuple}
use Rattle.quintic.specs.declared.quintuple.Quintuple.{Quintuple}
use Rattle.reading.specs.declared.calls.Call.TheVariants.{Append, Drop}
use Rattle.figures.specs.Readings.{X, Leaves}
use Rattle.figures.specs.Rows.{Shows, Product, Inverse, Refused, Figure}
use Rattle.figures.specs.declared.answers.Worked.{Worked}

-- Each row, by the definitions of the systems alone.
pub record Table : Type 0 where
  pub product_1 : Product system_1 (1 ∷ 1 ∷ 0 ∷ 0 ∷ []) (1 ∷ 0 ∷ 0 ∷ 1 ∷ []) (4 ∷ 1 ∷ 0 ∷ 1 ∷ [])
  pub inverse_1 : Inverse system_1 (0 ∷ 1 ∷ 0 ∷ 0 ∷ []) (0 ∷ 0 ∷ 0 ∷ 710235478 ∷ [])
  pub inverse_2 : Inverse system_2 (1 ∷ 1 ∷ 0 ∷ 0 ∷ 0 ∷ 0 ∷ 0 ∷ 0 ∷ [])
      (1065353216 ∷ 1065353217 ∷ 1065353216 ∷ 1065353217 ∷ 1065353216 ∷ 1065353217 ∷ 1065353216 ∷ 1065353217 ∷ [])
  pub square_3 : Product system_3 (0 ∷ 0 ∷ 0 ∷ 0 ∷ 1 ∷ []) (0 ∷ 0 ∷ 0 ∷ 0 ∷ 1 ∷ []) (2130706432 ∷ 0 ∷ 1 ∷ 1 ∷ 0 ∷ [])
  pub product_5 : Product system_5 (0 ∷ 0 ∷ 1 ∷ 0 ∷ 0 ∷ 0 ∷ []) (0 ∷ 0 ∷ 0 ∷ 0 ∷ 1 ∷ 0 ∷ []) (0 ∷ 5 ∷ 0 ∷ 0 ∷ 0 ∷ 0 ∷ [])
  pub inverse_7 : Inverse system_7 (0 ∷ 1 ∷ 0 ∷ 0 ∷ 0 ∷ []) (0 ∷ 1 ∷ 0 ∷ 0 ∷ 1 ∷ [])
  pub inverse_8 : Inverse system_8 (1 ∷ 1 ∷ 0 ∷ 0 ∷ 0 ∷ []) (4 ∷ 7 ∷ 4 ∷ 7 ∷ 4 ∷ [])
  pub inverse_9 : Inverse system_9 (2 ∷ 1 ∷ []) (8 ∷ 7 ∷ [])
  pub refused_9 : Refused system_9 (1 ∷ 1 ∷ [])
  -- at X: append 3, 4, 5, drop, append 1; the sheet 1,0,0,0,0,1; the sheet 3,0,0,0,0,0
  pub drop_8 : Figure system_8 X (Append 3 ∷ Append 4 ∷ Append 5 ∷ Drop ∷ Append 1 ∷ []) 3 (4 ∷ 5 ∷ 1 ∷ 0 ∷ 0 ∷ [])
  pub ones_8 : Figure system_8 X (Append 1 ∷ Append 0 ∷ Append 0 ∷ Append 0 ∷ Append 0 ∷ Append 1 ∷ []) 6 (3 ∷ 0 ∷ 0 ∷ 0 ∷ 0 ∷ [])
  pub three_8 : Figure system_8 X (Append 3 ∷ Append 0 ∷ Append 0 ∷ Append 0 ∷ Append 0 ∷ Append 0 ∷ []) 6 (3 ∷ 0 ∷ 0 ∷ 0 ∷ 0 ∷ [])

-- what values of the types of the systems mean
abbrev pub residue : (m : ℕ) (low : 2 ≤ m) {M : Type 0} → Residue M → Res m
residue m low a = res m low a.value

abbrev pub mean_1 : {M R : Type 0} → Element (Residue M) (Quadruple (Residue M)) R → system_1.Elem
mean_1 a = quadruple (residue 2130706433 (lit≤ tt)) a.value

abbrev pub mean_2 : {M R : Type 0} → Element (Residue M) (Octuple (Residue M)) R → system_2.Elem
mean_2 a = octuple (residue 2130706433 (lit≤ tt)) a.value

abbrev pub mean_3 : {M R : Type 0} → Element (Residue M) (Quintuple (Residue M)) R → system_3.Elem
mean_3 a = quintuple (residue 2130706433 (lit≤ tt)) a.value

abbrev pub mean_5 : {M R Q : Type 0} → (let E = Element (Residue M) (Pair (Residue M)) R in Element E (Triple E) Q) → system_5.Elem
mean_5 {M} {R} a = triple (λ (b : Element (Residue M) (Pair (Residue M)) R). pair (residue 2147483647 (lit≤ tt)) b.value) a.value

abbrev pub mean_7 : {R : Type 0} → Element Bit (Quintuple Bit) R → system_7.Elem
mean_7 a = quintuple (λ (b : Bit). b.on) a.value

abbrev pub mean_8 : {M R : Type 0} → Element (Residue M) (Quintuple (Residue M)) R → system_8.Elem
mean_8 a = quintuple (residue 11 (lit≤ tt)) a.value

abbrev pub mean_9 : {M R : Type 0} → Element (Residue M) (Pair (Residue M)) R → system_9.Elem
mean_9 a = pair (residue 11 (lit≤ tt)) a.value

-- Each row, as the code answers it.
pub record Answered (w : Worked) : Type 0 where
  pub product_1 : Shows system_1 mean_1 (4 ∷ 1 ∷ 0 ∷ 1 ∷ []) w.product1
  pub inverse_1 : Shows system_1 mean_1 (0 ∷ 0 ∷ 0 ∷ 710235478 ∷ []) w.inverse1
  pub inverse_2 : Shows system_2 mean_2
      (1065353216 ∷ 1065353217 ∷ 1065353216 ∷ 1065353217 ∷ 1065353216 ∷ 1065353217 ∷ 1065353216 ∷ 1065353217 ∷ []) w.inverse2
  pub square_3 : Shows system_3 mean_3 (2130706432 ∷ 0 ∷ 1 ∷ 1 ∷ 0 ∷ []) w.square3
  pub product_5 : Shows system_5 mean_5 (0 ∷ 5 ∷ 0 ∷ 0 ∷ 0 ∷ 0 ∷ []) w.product5
  pub inverse_7 : Shows system_7 mean_7 (0 ∷ 1 ∷ 0 ∷ 0 ∷ 1 ∷ []) w.inverse7
  pub inverse_8 : Shows system_8 mean_8 (4 ∷ 7 ∷ 4 ∷ 7 ∷ 4 ∷ []) w.inverse8
  pub inverse_9 : Shows system_9 mean_9 (8 ∷ 7 ∷ []) w.inverse9
  pub refused_9 : w.refused9 ≡ None
  pub drop_8 : Leaves w.drop8 3 (4 ∷ 5 ∷ 1 ∷ 0 ∷ 0 ∷ [])
  pub ones_8 : Leaves w.ones8 6 (3 ∷ 0 ∷ 0 ∷ 0 ∷ 0 ∷ [])
  pub three_8 : Leaves w.three8 6 (3 ∷ 0 ∷ 0 ∷ 0 ∷ 0 ∷ [])
