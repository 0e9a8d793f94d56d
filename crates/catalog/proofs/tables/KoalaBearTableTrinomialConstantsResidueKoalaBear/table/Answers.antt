use Rattle.std.proofs.Common.{◌≡◌}
use Rattle.bases.specs.declared.modulus.KoalaBear.{KoalaBear}
use Rattle.bases.specs.declared.residue.Residue.{Residue}
use Rattle.bases.proofs.Held.{residue_path}
use Rattle.quintic.specs.declared.quintuple.Quintuple.{Quintuple}
use Rattle.trinomial.specs.declared.rows.Rows.{Rows}
use Rattle.catalog.proofs.RowLaws.{koala_bear_table}
use Rattle.catalog.proofs.tables.KoalaBearTableTrinomialConstantsResidueKoalaBear.table.Goals as goal

-- rows of the same numbers are equal, and so are tables of the same rows
same_row : (x y : Quintuple (Residue KoalaBear)) → x.c0.value ≡ y.c0.value → x.c1.value ≡ y.c1.value → x.c2.value ≡ y.c2.value → x.c3.value ≡ y.c3.value → x.c4.value ≡ y.c4.value → x ≡ y
same_row x y e0 e1 e2 e3 e4 = λ i. record { c0 = residue_path x.c0 y.c0 e0 i; c1 = residue_path x.c1 y.c1 e1 i; c2 = residue_path x.c2 y.c2 e2 i; c3 = residue_path x.c3 y.c3 e3 i; c4 = residue_path x.c4 y.c4 e4 i }

same_rows : (x y : Rows (Residue KoalaBear)) → x.t1 ≡ y.t1 → x.t2 ≡ y.t2 → x.t3 ≡ y.t3 → x.t4 ≡ y.t4 → x ≡ y
same_rows x y e1 e2 e3 e4 = λ i. record { t1 = e1 i; t2 = e2 i; t3 = e3 i; t4 = e4 i }

pub returns : goal.returns
returns c =
    let e1 = c.row.ensures in
    let e2 = c.row-2.ensures in
    let e3 = c.row-3.ensures in
    let e4 = c.row-4.ensures in
    record {
      value = same_rows _ _
          (same_row _ _ (e1.c0 0) (e1.c1 0) (e1.c2 0) (e1.c3 0) (e1.c4 0))
          (same_row _ _ (e2.c0 0) (e2.c1 0) (e2.c2 0) (e2.c3 0) (e2.c4 0))
          (same_row _ _ (e3.c0 0) (e3.c1 0) (e3.c2 0) (e3.c3 0) (e3.c4 0))
          (same_row _ _ (e4.c0 0) (e4.c1 0) (e4.c2 0) (e4.c3 0) (e4.c4 0));
      table = simp (e1.c0 0, e1.c1 0, e1.c2 0, e1.c3 0, e1.c4 0, e2.c0 0, e2.c1 0, e2.c2 0, e2.c3 0, e2.c4 0, e3.c0 0, e3.c1 0, e3.c2 0, e3.c3 0, e3.c4 0, e4.c0 0, e4.c1 0, e4.c2 0, e4.c3 0, e4.c4 0) koala_bear_table;
    }
