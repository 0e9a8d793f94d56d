use Rattle.std.proofs.Common.{◌≡◌, Bool, false}
use Rattle.bases.specs.declared.bit.Bit.{Bit}
use Rattle.quintic.specs.declared.quintuple.Quintuple.{Quintuple}
use Rattle.catalog.proofs.RowLaws.{bit_table}
use Rattle.catalog.proofs.tables.BitTableTrinomialConstantsBit.table.Goals as goal

-- the row that these truth values make
row_is : (x : Quintuple Bit) (b0 b1 b2 b3 b4 : Bool) → x.c0.on ≡ b0 → x.c1.on ≡ b1 → x.c2.on ≡ b2 → x.c3.on ≡ b3 → x.c4.on ≡ b4 → x ≡ record { c0 = record { on = b0 }; c1 = record { on = b1 }; c2 = record { on = b2 }; c3 = record { on = b3 }; c4 = record { on = b4 } }
row_is x b0 b1 b2 b3 b4 e0 e1 e2 e3 e4 = λ i. record { c0 = record { on = e0 i }; c1 = record { on = e1 i }; c2 = record { on = e2 i }; c3 = record { on = e3 i }; c4 = record { on = e4 i } }

pub returns : goal.returns
returns c =
    let e1 = c.row.ensures in
    let e2 = c.row-2.ensures in
    let e3 = c.row-3.ensures in
    let e4 = c.row-4.ensures in
    let r1 = row_is _ _ _ _ _ _ (e1.c0 false) (e1.c1 false) (e1.c2 false) (e1.c3 false) (e1.c4 false) in
    let r2 = row_is _ _ _ _ _ _ (e2.c0 false) (e2.c1 false) (e2.c2 false) (e2.c3 false) (e2.c4 false) in
    let r3 = row_is _ _ _ _ _ _ (e3.c0 false) (e3.c1 false) (e3.c2 false) (e3.c3 false) (e3.c4 false) in
    let r4 = row_is _ _ _ _ _ _ (e4.c0 false) (e4.c1 false) (e4.c2 false) (e4.c3 false) (e4.c4 false) in
    record {
      value = λ i. record { t1 = r1 i; t2 = r2 i; t3 = r3 i; t4 = r4 i };
      table = rw (r1, r2, r3, r4) bit_table;
    }
