-- Conjugates: the Frobenius map of an extension, and the laws of the constants that give it.
use Rattle.std.specs.Prelude.{◌≡◌, ℕ, zero, suc, ◌<◌, ◌≢◌, slice_index_or}
use Rattle.algebra.specs.Ring.{Ops, sub, power}
use Rattle.algebra.specs.Units.{IsUnit, Inverts, NoInverse}
use Rattle.extensions.specs.Tuples.{Tuple, entries, tabulate, each, both, fill}
use Rattle.extensions.specs.Schoolbook.{trinomial}

-- f applied k times
abbrev pub repeated : {E : Type 0} → (E → E) → ℕ → E → E
repeated f zero x = x
repeated f (suc k) x = f (repeated f k x)

-- the element of the extension that stands for one of the layer below: it has zeros above power 0
abbrev pub embed : {A : Type 0} → (d : ℕ) → Ops A → A → Tuple (suc d) A
embed d o x = (x, fill d o.zero)

-- A map of an extension onto itself that keeps sums and products, gives every element back after as many applications as the degree, and leaves exactly the elements of the
-- layer below where they are.
pub record Conjugation {A : Type 0} (d : ℕ) (o : Ops A) (mul : Tuple (suc d) A → Tuple (suc d) A → Tuple (suc d) A) (φ : Tuple (suc d) A → Tuple (suc d) A) : Type 0 where
  pub sums : (a b : Tuple (suc d) A) → φ (both (suc d) o.add a b) ≡ both (suc d) o.add (φ a) (φ b)
  pub products : (a b : Tuple (suc d) A) → φ (mul a b) ≡ mul (φ a) (φ b)
  pub period : (a : Tuple (suc d) A) → repeated φ (suc d) a ≡ a
  pub below : (x : A) → φ (embed d o x) ≡ embed d o x
  pub only_below : (a : Tuple (suc d) A) → φ a ≡ a → a ≡ embed d o a.0

-- the product of the first k conjugates, a × φ(a) × .. × φ^(k-1)(a)
abbrev pub conjugates : {E : Type 0} → Ops E → (E → E) → ℕ → E → E
conjugates o φ zero a = o.one
conjugates o φ (suc k) a = o.mul a (φ (conjugates o φ k a))

-- Root law: z^n is one, and z^i - 1 has an inverse for each i from 1 to n - 1.
pub record RootLaw {A : Type 0} (o : Ops A) (n : ℕ) (z : A) : Type 0 where
  pub root : power o z n ≡ o.one
  pub apart : (i : ℕ) → 0 < i → i < n → IsUnit o (sub o (power o z i) o.one)

-- Frobenius of a binomial extension multiplies coefficient i by z^i.
abbrev pub root_frobenius_map : {A : Type 0} → (n : ℕ) → Ops A → A → Tuple n A → Tuple n A
root_frobenius_map n o z a = tabulate n (λ i. o.mul (slice_index_or (entries n a) i o.zero) (power o z i))

-- each coefficient times one element of the layer below
abbrev pub scaled : {A : Type 0} → (n : ℕ) → Ops A → A → Tuple n A → Tuple n A
scaled n o x a = each n (λ y. o.mul y x) a

-- Frobenius of a trinomial extension sends a to a_0 + a_1 × T1 + a_2 × T2 + a_3 × T3 + a_4 × T4.
abbrev pub table_frobenius : {A : Type 0} → Ops A → Tuple 4 (Tuple 5 A) → Tuple 5 A → Tuple 5 A
table_frobenius o t a =
    let add = both 5 o.add in
    add (embed 4 o a.0)
    (add (scaled 5 o a.1.0 t.0)
    (add (scaled 5 o a.1.1.0 t.1.0)
    (add (scaled 5 o a.1.1.1.0 t.1.1.0) (scaled 5 o a.1.1.1.1.0 t.1.1.1.0))))

-- The rows are powers of the first, which is a root of the modulus: T_k is T1^k, and T1^5 + T1² is one.
pub record RowPowers {A : Type 0} (o : Ops A) (t : Tuple 4 (Tuple 5 A)) : Type 0 where
  pub second : t.1.0 ≡ trinomial o t.0 t.0
  pub third : t.1.1.0 ≡ trinomial o t.1.0 t.0
  pub fourth : t.1.1.1.0 ≡ trinomial o t.1.1.0 t.0
  pub equation : both 5 o.add (trinomial o t.1.1.1.0 t.0) t.1.0 ≡ embed 4 o o.one

-- Table law: the rows are such powers, five applications of Frobenius give every element back, and one leaves only the elements of the layer below where they are.
pub record TableLaw {A : Type 0} (o : Ops A) (t : Tuple 4 (Tuple 5 A)) : Type 0 where
  pub powers : RowPowers o t
  pub period : (a : Tuple 5 A) → repeated (table_frobenius o t) 5 a ≡ a
  pub fixed : (a : Tuple 5 A) → table_frobenius o t a ≡ a → a.1 ≡ fill 4 o.zero

-- b is the conjugate inverse of a: zero for zero, and the inverse of any other element
abbrev pub PseudoInverse : {E : Type 0} → Ops E → E → E → Type 0
PseudoInverse o a b = (a ≡ o.zero → b ≡ o.zero) × ((a ≢ o.zero) → Inverts o a b)

-- a has no conjugate inverse: it is not zero, and no element is its inverse
abbrev pub NoPseudoInverse : {E : Type 0} → Ops E → E → Type 0
NoPseudoInverse o a = (a ≢ o.zero) × NoInverse o a

-- a map of tuples of any length as a formula over any operations, in which constants of the type S have a meaning
abbrev pub Formula : Type 0 → Type 1
Formula S = (n : ℕ) (A : Type 0) → Ops A → (S → A) → Tuple n A → Tuple n A
