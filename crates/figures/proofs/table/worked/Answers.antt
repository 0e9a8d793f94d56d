use Rattle.std.proofs.Common.{◌≡◌, ℕ, true, false, refl, arith, lit≤}
use Rattle.bases.specs.Residues.{Res, res}
use Rattle.catalog.specs.Catalog.{system_1, system_2, system_3, system_5, system_7, system_8, system_9}
use Rattle.catalog.proofs.NineLawful.{lawful_1, lawful_2, lawful_3, lawful_5, lawful_7, lawful_8, lawful_9}
use Rattle.reading.specs.Sheet.{after}
use Rattle.figures.specs.Table.{Table, mean_1, mean_2, mean_3, mean_5, mean_7, mean_8, mean_9}
use Rattle.figures.proofs.Rowwise.{product_row, inverse_row, refused_row, product_shown, inverse_shown, refused_shown}
use Rattle.figures.proofs.table.worked.Goals as goal

abbrev k : ℕ → Res 2130706433
k = res 2130706433 (lit≤ tt)

abbrev m : ℕ → Res 2147483647
m = res 2147483647 (lit≤ tt)

abbrev e : ℕ → Res 11
e = res 11 (lit≤ tt)

-- the operands and the inverses, as elements
abbrev one_and_x : system_1.Elem
one_and_x = (k 1, (k 1, (k 0, (k 0, tt))))

abbrev one_and_x³ : system_1.Elem
one_and_x³ = (k 1, (k 0, (k 0, (k 1, tt))))

abbrev x_1 : system_1.Elem
x_1 = (k 0, (k 1, (k 0, (k 0, tt))))

abbrev third-X³ : system_1.Elem
third-X³ = (k 0, (k 0, (k 0, (k 710235478, tt))))

abbrev one_and_x_2 : system_2.Elem
one_and_x_2 = (k 1, (k 1, (k 0, (k 0, (k 0, (k 0, (k 0, (k 0, tt))))))))

abbrev halves : system_2.Elem
halves = (k 1065353216, (k 1065353217, (k 1065353216, (k 1065353217, (k 1065353216, (k 1065353217, (k 1065353216, (k 1065353217, tt))))))))

abbrev X⁴ : system_3.Elem
X⁴ = (k 0, (k 0, (k 0, (k 0, (k 1, tt)))))

abbrev Y : system_5.Elem
Y = ((m 0, (m 0, tt)), ((m 1, (m 0, tt)), ((m 0, (m 0, tt)), tt)))

abbrev Y² : system_5.Elem
Y² = ((m 0, (m 0, tt)), ((m 0, (m 0, tt)), ((m 1, (m 0, tt)), tt)))

abbrev x_7 : system_7.Elem
x_7 = (false, (true, (false, (false, (false, tt)))))

abbrev X-and-X⁴ : system_7.Elem
X-and-X⁴ = (false, (true, (false, (false, (true, tt)))))

abbrev one_and_x_8 : system_8.Elem
one_and_x_8 = (e 1, (e 1, (e 0, (e 0, (e 0, tt)))))

abbrev inverse_of_8 : system_8.Elem
inverse_of_8 = (e 4, (e 7, (e 4, (e 7, (e 4, tt)))))

abbrev two_and_x : system_9.Elem
two_and_x = (e 2, (e 1, tt))

abbrev inverse_of_9 : system_9.Elem
inverse_of_9 = (e 8, (e 7, tt))

abbrev one_and_x_9 : system_9.Elem
one_and_x_9 = (e 1, (e 1, tt))

abbrev one_less_x : system_9.Elem
one_less_x = (e 1, (e 10, tt))

not_zero : system_9.list one_less_x ≡ system_9.list system_9.ops.zero → ⊥
not_zero p = let z : ◌≡◌ {A = ℕ} 1 0 = cc in omega arith

rows : Table
unfolding after
rows = record {
  product_1 = product_row system_1 lawful_1 one_and_x one_and_x³ _ refl;
  inverse_1 = inverse_row system_1 lawful_1 x_1 third-X³ refl;
  inverse_2 = inverse_row system_2 lawful_2 one_and_x_2 halves refl;
  square_3 = product_row system_3 lawful_3 X⁴ X⁴ _ refl;
  product_5 = product_row system_5 lawful_5 Y Y² _ refl;
  inverse_7 = inverse_row system_7 lawful_7 x_7 X-and-X⁴ refl;
  inverse_8 = inverse_row system_8 lawful_8 one_and_x_8 inverse_of_8 refl;
  inverse_9 = inverse_row system_9 lawful_9 two_and_x inverse_of_9 refl;
  refused_9 = refused_row system_9 lawful_9 one_and_x_9 one_less_x refl not_zero;
  drop_8 = record { count = refl; sum = refl };
  ones_8 = record { count = refl; sum = refl };
  three_8 = record { count = refl; sum = refl };
}

pub returns : goal.returns
returns c = record {
  rows = rows;
  answers = record {
    product_1 = product_shown system_1 lawful_1 mean_1 one_and_x one_and_x³ _ rows.product_1 c.product.result c.product.ensures;
    inverse_1 = inverse_shown system_1 lawful_1 mean_1 x_1 third-X³ rows.inverse_1 c.inverse.result c.inverse.ensures;
    inverse_2 = inverse_shown system_2 lawful_2 mean_2 one_and_x_2 halves rows.inverse_2 c.inverse-2.result c.inverse-2.ensures;
    square_3 = product_shown system_3 lawful_3 mean_3 X⁴ X⁴ _ rows.square_3 c.square.result c.square.ensures;
    product_5 = product_shown system_5 lawful_5 mean_5 Y Y² _ rows.product_5 c.product-2.result c.product-2.ensures;
    inverse_7 = inverse_shown system_7 lawful_7 mean_7 x_7 X-and-X⁴ rows.inverse_7 c.inverse-3.result c.inverse-3.ensures;
    inverse_8 = inverse_shown system_8 lawful_8 mean_8 one_and_x_8 inverse_of_8 rows.inverse_8 c.inverse-4.result c.inverse-4.ensures;
    inverse_9 = inverse_shown system_9 lawful_9 mean_9 two_and_x inverse_of_9 rows.inverse_9 c.inverse-5.result c.inverse-5.ensures;
    refused_9 = refused_shown system_9 lawful_9 mean_9 one_and_x_9 rows.refused_9 c.inverse-6.result c.inverse-6.ensures;
    drop_8 = c.after_a_drop.ensures;
    ones_8 = c.of_one_and_one.ensures;
    three_8 = c.of_three.ensures;
  };
}
