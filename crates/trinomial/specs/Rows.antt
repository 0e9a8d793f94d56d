-- What a table of four rows means.
use Rattle.std.specs.Prelude.{ℕ, zero, suc}
use Rattle.algebra.specs.Ring.{Ops}
use Rattle.extensions.specs.Conjugates.{repeated, table_frobenius}
use Rattle.extensions.specs.Schoolbook.{trinomial}
use Rattle.extensions.specs.Tuples.{Tuple}
use Rattle.quintic.specs.Quintuples.{quintuple}
use Rattle.trinomial.specs.declared.rows.Rows.{Rows}

-- the rows T1 to T4, each by what its coefficients mean
abbrev pub rows : {S E : Type 0} → (S → E) → Rows S → Tuple 4 (Tuple 5 E)
rows mean t = (quintuple mean t.t1, (quintuple mean t.t2, (quintuple mean t.t3, (quintuple mean t.t4, tt))))

-- the product of the conjugates of an element but itself, φ(a) φ²(a) φ³(a) φ⁴(a): with t = φ(a φ(a)) it is t φ²(t)
abbrev pub other_conjugates_of : {A : Type 0} → Ops A → Tuple 4 (Tuple 5 A) → Tuple 5 A → Tuple 5 A
other_conjugates_of o r a =
    let φ = table_frobenius o r in
    let t = φ (trinomial o a (φ a)) in
    trinomial o t (repeated φ 2 t)

-- Frobenius by the rows as a map of tuples of any length; it moves those of five coefficients only
abbrev pub table_map : {A : Type 0} → (n : ℕ) → Ops A → Tuple 4 (Tuple 5 A) → Tuple n A → Tuple n A
table_map zero o r a = a
table_map (suc zero) o r a = a
table_map (suc (suc zero)) o r a = a
table_map (suc (suc (suc zero))) o r a = a
table_map (suc (suc (suc (suc zero)))) o r a = a
table_map (suc (suc (suc (suc (suc zero))))) o r a = table_frobenius o r a
table_map (suc (suc (suc (suc (suc (suc n)))))) o r a = a

-- the product of tuples of any length, which is the trinomial's for five coefficients
abbrev pub product_of : {A : Type 0} → (n : ℕ) → Ops A → Tuple n A → Tuple n A → Tuple n A
product_of zero o a b = a
product_of (suc zero) o a b = a
product_of (suc (suc zero)) o a b = a
product_of (suc (suc (suc zero))) o a b = a
product_of (suc (suc (suc (suc zero)))) o a b = a
product_of (suc (suc (suc (suc (suc zero))))) o a b = trinomial o a b
product_of (suc (suc (suc (suc (suc (suc n)))))) o a b = a
