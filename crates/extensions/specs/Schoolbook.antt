-- The schoolbook product of polynomials by their coefficients, and its reduction by a modulus.
use Rattle.std.specs.Prelude.{ℕ, zero, suc, ◌+◌, ◌-◌, List, slice_index_or}
use Rattle.algebra.specs.Ring.{Ops, sub}
use Rattle.extensions.specs.Tuples.{Tuple, entries, tabulate}

-- f 0 + f 1 + .. + f k
abbrev pub sum_to : {A : Type 0} → Ops A → (ℕ → A) → ℕ → A
sum_to o f zero = f 0
sum_to o f (suc k) = o.add (sum_to o f k) (f (suc k))

-- the coefficient of X^k in the product of two polynomials: the total of a_i × b_j over i + j = k, coefficients beyond the last being zero
abbrev pub coefficient : {A : Type 0} → Ops A → List A → List A → ℕ → A
coefficient o f g k = sum_to o (λ i. o.mul (slice_index_or f i o.zero) (slice_index_or g (k - i) o.zero)) k

-- A product modulo X^n - w: X^n is replaced by w, so coefficient k is c_k + w × c_(k+n).
abbrev pub binomial : {A : Type 0} → (n : ℕ) → Ops A → A → Tuple n A → Tuple n A → Tuple n A
binomial n o w a b =
    let c = coefficient o (entries n a) (entries n b) in
    tabulate n (λ k. o.add (c k) (o.mul w (c (k + n))))

-- A product modulo X^5 + X² - 1: X^5 is replaced by 1 - X², from the highest power down.
abbrev pub trinomial : {A : Type 0} → Ops A → Tuple 5 A → Tuple 5 A → Tuple 5 A
trinomial o a b =
    let c = coefficient o (entries 5 a) (entries 5 b) in (
      sub o (o.add (c 0) (c 5)) (c 8),
      (
        o.add (c 1) (c 6),
        (
          o.add (o.add (sub o (c 2) (c 5)) (c 7)) (c 8),
          (
            o.add (sub o (c 3) (c 6)) (c 8),
            (sub o (c 4) (c 7), tt),
          ),
        ),
      ),
    )
