-- A commutative ring with one: its operations, its laws, and what is made of them.
use Rattle.std.specs.Prelude.{◌≡◌, List, [], ◌∷◌, ◌++◌, map, ℕ, suc, ◌+◌, ◌*◌}
use Prim.Native.Nat as N

pub record Ops (A : Type 0) : Type 0 where
  pub zero : A
  pub one : A
  pub add : A → A → A
  pub neg : A → A
  pub mul : A → A → A

-- the laws of a commutative ring with one; zero divisors are allowed, and so is the ring of one element
pub record Laws {A : Type 0} (o : Ops A) : Type 0 where
  pub add_assoc : (x y z : A) → o.add (o.add x y) z ≡ o.add x (o.add y z)
  pub add_comm : (x y : A) → o.add x y ≡ o.add y x
  pub add-zero : (x : A) → o.add x o.zero ≡ x
  pub add-neg : (x : A) → o.add x (o.neg x) ≡ o.zero
  pub mul_assoc : (x y z : A) → o.mul (o.mul x y) z ≡ o.mul x (o.mul y z)
  pub mul_comm : (x y : A) → o.mul x y ≡ o.mul y x
  pub mul-one : (x : A) → o.mul x o.one ≡ x
  pub mul-add : (x y z : A) → o.mul x (o.add y z) ≡ o.add (o.mul x y) (o.mul x z)

-- the difference adds the negative
abbrev pub sub : {A : Type 0} → Ops A → A → A → A
sub o x y = o.add x (o.neg y)

-- n times one: one + one + .. + zero, with n ones
abbrev pub multiple : {A : Type 0} → Ops A → ℕ → A
multiple o N.zero = o.zero
multiple o (suc n) = o.add o.one (multiple o n)

-- the product of n factors x; with none it is one
abbrev pub power : {A : Type 0} → Ops A → A → ℕ → A
power o x N.zero = o.one
power o x (suc n) = o.mul x (power o x n)

-- the sum of a list
abbrev pub total : {A : Type 0} → Ops A → List A → A
total o [] = o.zero
total o (x ∷ xs) = o.add x (total o xs)

-- the product of a list
abbrev pub product : {A : Type 0} → Ops A → List A → A
product o [] = o.one
product o (x ∷ xs) = o.mul x (product o xs)

-- the products of two lists, place by place, as far as both go
abbrev pub products : {A : Type 0} → Ops A → List A → List A → List A
products o [] ys = []
products o (x ∷ xs) [] = []
products o (x ∷ xs) (y ∷ ys) = o.mul x y ∷ products o xs ys

-- the dot product: the sum of the products
abbrev pub dot : {A : Type 0} → Ops A → List A → List A → A
dot o xs ys = total o (products o xs ys)

-- what follows from the laws at once
pub record Derived {A : Type 0} (o : Ops A) : Type 0 where
  pub zero-add : (x : A) → o.add o.zero x ≡ x
  pub one-mul : (x : A) → o.mul o.one x ≡ x
  pub add-mul : (x y z : A) → o.mul (o.add x y) z ≡ o.add (o.mul x z) (o.mul y z)
  pub mul-zero : (x : A) → o.mul x o.zero ≡ o.zero
  pub add_cancel : (x y z : A) → o.add x y ≡ o.add x z → y ≡ z
  pub neg_unique : (x y : A) → o.add x y ≡ o.zero → y ≡ o.neg x
  pub neg-neg : (x : A) → o.neg (o.neg x) ≡ x
  pub neg-add : (x y : A) → o.neg (o.add x y) ≡ o.add (o.neg x) (o.neg y)
  pub neg-mul : (x y : A) → o.mul (o.neg x) y ≡ o.neg (o.mul x y)

-- the laws of multiples of one, of powers and of finite sums
pub record Counting {A : Type 0} (o : Ops A) : Type 0 where
  pub multiple-add : (m n : ℕ) → multiple o (m + n) ≡ o.add (multiple o m) (multiple o n)
  pub multiple-mul : (m n : ℕ) → multiple o (m * n) ≡ o.mul (multiple o m) (multiple o n)
  pub power-add : (x : A) (m n : ℕ) → power o x (m + n) ≡ o.mul (power o x m) (power o x n)
  pub power-mul : (x : A) (m n : ℕ) → power o x (m * n) ≡ power o (power o x m) n
  pub mul_power : (x y : A) (n : ℕ) → power o (o.mul x y) n ≡ o.mul (power o x n) (power o y n)
  pub total-append : (xs ys : List A) → total o (xs ++ ys) ≡ o.add (total o xs) (total o ys)
  pub mul-total : (x : A) (ys : List A) → o.mul x (total o ys) ≡ total o (map (o.mul x) ys)
