-- The two tables keep their law, by computing: the rows are powers of the first, five applications give X back, and four rows of numbers single out the coefficients above power 0.
use Rattle.std.proofs.Common.{◌≡◌, ℕ, Bool, true, false, refl, lit≤}
use Rattle.bases.specs.Bits.{bit_ops}
use Rattle.bases.specs.Residues.{Res, res}
use Rattle.bases.specs.BitsLemmas.{bits_lawful}
use Rattle.extensions.specs.Conjugates.{RowPowers, TableLaw}
use Rattle.extensions.specs.Tuples.{Tuple}
use Rattle.extensions.proofs.Tables.{period_by_generator, fixed_by_rows}
use Rattle.catalog.specs.Catalog.{koala_bear, system_1, system_3}
use Rattle.catalog.proofs.NineLawful.{koala_bear_lawful, lawful_1, lawful_3}

abbrev r : ℕ → Res 2130706433
r = res 2130706433 (lit≤ tt)

-- four coefficients, and five, are equal where their lists are
equal_4 : (x y : Tuple 4 (Res 2130706433)) → system_1.list x ≡ system_1.list y → x ≡ y
equal_4 = lawful_1.list_injective

equal_5 : (x y : Tuple 5 (Res 2130706433)) → system_3.list x ≡ system_3.list y → x ≡ y
equal_5 = lawful_3.list_injective

abbrev pub koala_bear_rows : Tuple 4 (Tuple 5 (Res 2130706433))
koala_bear_rows = (
  (r 1576402667, (r 1173144480, (r 1567662457, (r 1206866823, (r 2428146, tt))))),
  (
    (r 1680345488, (r 1381986, (r 615237464, (r 1380104858, (r 295431824, tt))))),
    (
      (r 441230756, (r 323126830, (r 704986542, (r 1445620072, (r 503505220, tt))))),
      (
        (r 1364444097, (r 1144738982, (r 2008416047, (r 143367062, (r 1027410849, tt))))),
        tt,
      ),
    ),
  ),
)

koala_bear_powers : RowPowers koala_bear.ops koala_bear_rows
koala_bear_powers = record { second = equal_5 _ _ refl; third = equal_5 _ _ refl; fourth = equal_5 _ _ refl; equation = equal_5 _ _ refl }

pub koala_bear_table : TableLaw koala_bear.ops koala_bear_rows
koala_bear_table = record {
  powers = koala_bear_powers;
  period = period_by_generator koala_bear.ops koala_bear_lawful.ring koala_bear_rows koala_bear_powers (equal_5 _ _ refl);
  fixed = fixed_by_rows koala_bear.ops koala_bear_lawful.ring koala_bear_rows
      (r 644918826, (r 452286336, (r 1706196746, (r 0, (r 54375094, tt)))))
      (r 513714627, (r 887608306, (r 93988210, (r 0, (r 1877406898, tt)))))
      (r 1410699775, (r 734967746, (r 454069816, (r 0, (r 482666887, tt)))))
      (r 97412552, (r 106423697, (r 1659649197, (r 0, (r 738012020, tt)))))
      (equal_4 _ _ refl) (equal_4 _ _ refl) (equal_4 _ _ refl) (equal_4 _ _ refl);
}

abbrev pub bit_rows : Tuple 4 (Tuple 5 Bool)
bit_rows = (
  (false, (false, (true, (false, (false, tt))))),
  (
    (false, (false, (false, (false, (true, tt))))),
    (
      (false, (true, (false, (true, (false, tt))))),
      (
        (true, (false, (true, (true, (false, tt))))),
        tt,
      ),
    ),
  ),
)

bit_powers : RowPowers bit_ops bit_rows
bit_powers = record { second = refl; third = refl; fourth = refl; equation = refl }

pub bit_table : TableLaw bit_ops bit_rows
bit_table = record {
  powers = bit_powers;
  period = period_by_generator bit_ops bits_lawful.ring bit_rows bit_powers refl;
  fixed = fixed_by_rows bit_ops bits_lawful.ring bit_rows
      (false, (false, (true, (false, (true, tt)))))
      (true, (false, (false, (false, (true, tt)))))
      (false, (true, (true, (false, (true, tt)))))
      (true, (false, (false, (false, (false, tt)))))
      refl refl refl refl;
}
