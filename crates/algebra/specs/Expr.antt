-- Expressions in the operations of a ring, and a test that two of them are equal in every commutative ring. Each is brought into a sum of monomials, and
-- the test computes whether the difference has only zero coefficients. All of it but the expressions and their meaning is shut: it opens by `unfolding same`.
use Rattle.std.specs.Prelude.{List, [], ◌∷◌, Bool, true, false, leb, eqb, get_or, ◌≡◌}
use Prim.Native.Nat.{ℕ, ◌+◌, ◌*◌, ◌^◌, compare, Ordering}
use Rattle.algebra.specs.Ring.{Ops, Laws}

infixl 60 ◌⊞◌
infixl 70 ◌⊠◌
pub data Expr : Type 0 where
  var : ℕ → Expr
  𝟎 : Expr
  𝟏 : Expr
  ◌⊞◌ : Expr → Expr → Expr
  ⊟ : Expr → Expr
  ◌⊠◌ : Expr → Expr → Expr

-- the operations on expressions: a formula written over any operations is its own expression here
abbrev pub exprs : Ops Expr
exprs = record { zero = 𝟎; one = 𝟏; add = ◌⊞◌; neg = ⊟; mul = ◌⊠◌ }

-- what an expression means, where `env` gives each variable its element
abbrev pub eval : {A : Type 0} → Ops A → (ℕ → A) → Expr → A
eval o env (var x) = env x
eval o env 𝟎 = o.zero
eval o env 𝟏 = o.one
eval o env (a ⊞ b) = o.add (eval o env a) (eval o env b)
eval o env (⊟ a) = o.neg (eval o env a)
eval o env (a ⊠ b) = o.mul (eval o env a) (eval o env b)

-- a monomial is the list of its variables, in order and with repetitions
unfoldable pub insert : ℕ → List ℕ → List ℕ
insert x [] = x ∷ []
insert x (y ∷ ys) = elim (leb x y) [ true ↦ x ∷ y ∷ ys | false ↦ y ∷ insert x ys ]

unfoldable pub mul_monomial : List ℕ → List ℕ → List ℕ
mul_monomial [] ys = ys
mul_monomial (x ∷ xs) ys = insert x (mul_monomial xs ys)

unfoldable pub both : Bool → Bool → Bool
both true b = b
both false b = false

unfoldable pub same_monomial : List ℕ → List ℕ → Bool
same_monomial [] [] = true
same_monomial [] (y ∷ ys) = false
same_monomial (x ∷ xs) [] = false
same_monomial (x ∷ xs) (y ∷ ys) = both (eqb x y) (same_monomial xs ys)

-- a sum of monomials in the order of their keys: the coefficient p - n, the key k (the exponents as digits in a large base, by which monomials are
-- sorted) and the monomial. The key only orders the terms: two terms are joined where their monomials are equal.
pub data Normal : Type 0 where
  nil : Normal
  cons : (p n k : ℕ) → List ℕ → Normal → Normal

-- one term more; `f` adds the rest of the left sum
unfoldable pub add_to : ℕ → ℕ → ℕ → List ℕ → (Normal → Normal) → Normal → Normal
add_to p n k m f nil = cons p n k m (f nil)
add_to p n k m f (cons p' n' k' m' q) =
    elim (compare k k') [
      | Ordering.lt ↦ cons p n k m (f (cons p' n' k' m' q))
      | Ordering.eq ↦ elim (same_monomial m m') [ true ↦ cons (p + p') (n + n') k m (f q) | false ↦ cons p n k m (f (cons p' n' k' m' q)) ]
      | Ordering.gt ↦ cons p' n' k' m' (add_to p n k m f q)
    ]

unfoldable pub add_normal : Normal → Normal → Normal
add_normal nil q = q
add_normal (cons p n k m r) q = add_to p n k m (add_normal r) q

unfoldable pub neg_normal : Normal → Normal
neg_normal nil = nil
neg_normal (cons p n k m q) = cons n p k m (neg_normal q)

unfoldable pub mul_term : ℕ → ℕ → ℕ → List ℕ → Normal → Normal
mul_term p n k m nil = nil
mul_term p n k m (cons p' n' k' m' q) = cons (p * p' + n * n') (p * n' + n * p') (k + k') (mul_monomial m m') (mul_term p n k m q)

unfoldable pub mul_normal : Normal → Normal → Normal
mul_normal nil q = nil
mul_normal (cons p n k m r) q = add_normal (mul_term p n k m q) (mul_normal r q)

unfoldable pub normal : Expr → Normal
normal (var x) = cons 1 0 (65536 ^ x) (x ∷ []) nil
normal 𝟎 = nil
normal 𝟏 = cons 1 0 0 [] nil
normal (a ⊞ b) = add_normal (normal a) (normal b)
normal (⊟ a) = neg_normal (normal a)
normal (a ⊠ b) = mul_normal (normal a) (normal b)

unfoldable pub is_zero : Normal → Bool
is_zero nil = true
is_zero (cons p n k m q) = both (eqb p n) (is_zero q)

-- the test: the difference has only zero coefficients
unfoldable pub same : Expr → Expr → Bool
unfolding insert mul_monomial both same_monomial add_to add_normal neg_normal mul_term mul_normal normal is_zero
same a b = is_zero (normal (a ⊞ ⊟ b))

-- the terms whose coefficient is not zero
unfoldable pub clean : Normal → Normal
clean nil = nil
clean (cons p n k m q) = elim (eqb p n) [ true ↦ clean q | false ↦ cons p n k m (clean q) ]

-- what is left of a - b
unfoldable pub left : Expr → Expr → Normal
unfolding same clean
left a b = clean (normal (a ⊞ ⊟ b))

-- the variables stand for the elements of a list, in its order
abbrev pub among : {A : Type 0} → Ops A → List A → ℕ → A
among o xs n = get_or xs n o.zero

-- the two expressions are equal in every commutative ring on A, whatever the variables stand for
pub record Holds (A : Type 0) (a b : Expr) : Type 0 where
  pub holds : (o : Ops A) → Laws o → (env : ℕ → A) → eval o env a ≡ eval o env b

-- in every commutative ring on A, a = b wherever the variables stand for elements with l = r
pub record Follows (A : Type 0) (l r a b : Expr) : Type 0 where
  pub follows : (o : Ops A) → Laws o → (env : ℕ → A) → eval o env l ≡ eval o env r → eval o env a ≡ eval o env b
