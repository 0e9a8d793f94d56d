-- The solver is sound: expressions that pass its test are equal in every commutative ring. `solve` proves an equation, `solve_by` one that follows from
-- another equation, and `explain` shows in its refusal what is left.
use mathlib.Core.Path.{◌≡◌, refl, sym, ◌∙◌, ap, ap₂}
use mathlib.Core.List.{List, [], ◌∷◌}
use mathlib.Core.Bool.{Bool, true, false}
use Prim.Native.Nat.{Ordering}
use Prim.Native.Nat.{ℕ, ◌+◌, ◌*◌, compare}
use lib.Dec.{T, leb, eqb, eqb→eq}
use Rattle.algebra.specs.Ring.{Ops, Laws, multiple}
use Rattle.algebra.specs.Expr.{Expr, var, 𝟎, 𝟏, ◌⊞◌, ⊟, ◌⊠◌, eval, Normal, nil, cons, insert, mul_monomial, both, same_monomial, add_to, add_normal, neg_normal, mul_term, mul_normal, normal, is_zero, same, clean, left, Holds, Follows}
use Rattle.algebra.proofs.Laws as R
use Rattle.algebra.proofs.Multiples as M

both_left : (a b : Bool) → T (both a b) → T a
unfolding same
both_left true b t = tt
both_left false b t = t

both_right : (a b : Bool) → T (both a b) → T b
unfolding same
both_right true b t = t
both_right false b t = absurd t

same_monomial_sound : (xs ys : List ℕ) → T (same_monomial xs ys) → xs ≡ ys
unfolding same
same_monomial_sound [] [] t = refl
same_monomial_sound [] (y ∷ ys) t = absurd t
same_monomial_sound (x ∷ xs) [] t = absurd t
same_monomial_sound (x ∷ xs) (y ∷ ys) t =
    ap₂ ◌∷◌ (eqb→eq x y (both_left (eqb x y) (same_monomial xs ys) t)) (same_monomial_sound xs ys (both_right (eqb x y) (same_monomial xs ys) t))

-- what monomials and normal forms mean
module _ {A : Type 0} (o : Ops A) (env : ℕ → A) where
  abbrev pub eval_monomial : List ℕ → A
  eval_monomial [] = o.one
  eval_monomial (x ∷ xs) = o.mul (env x) (eval_monomial xs)

  abbrev pub coeff : ℕ → ℕ → A
  coeff p n = o.add (multiple o p) (o.neg (multiple o n))

  abbrev pub eval_normal : Normal → A
  eval_normal nil = o.zero
  eval_normal (cons p n k m q) = o.add (o.mul (coeff p n) (eval_monomial m)) (eval_normal q)

module _ {A : Type 0} (o : Ops A) (L : Laws o) (env : ℕ → A) where
  infixl 60 ◌⊕◌
  infixl 70 ◌⊗◌
  open o use {add as ◌⊕◌, mul as ◌⊗◌, neg as ⊖, zero as 𝟘, one as 𝟙}
  open L use {add_assoc, add_comm, add-zero, add-neg, mul_assoc, mul_comm, mul-one, mul-add}

  insert_sound : (x : ℕ) (ys : List ℕ) → eval_monomial o env (insert x ys) ≡ env x ⊗ eval_monomial o env ys
  unfolding same
  insert_sound x [] = refl
  insert_sound x (y ∷ ys) =
      elim (leb x y) as (λ b. eval_monomial o env (elim b [ true ↦ x ∷ y ∷ ys | false ↦ y ∷ insert x ys ]) ≡ env x ⊗ (env y ⊗ eval_monomial o env ys)) [
        | true ↦ refl
        | false ↦ ap (λ z. env y ⊗ z) (insert_sound x ys) ∙ R.mul_left_comm o L (env y) (env x) (eval_monomial o env ys)
      ]

  mul_monomial_sound : (xs ys : List ℕ) → eval_monomial o env (mul_monomial xs ys) ≡ eval_monomial o env xs ⊗ eval_monomial o env ys
  unfolding same
  mul_monomial_sound [] ys = sym (R.one-mul o L (eval_monomial o env ys))
  mul_monomial_sound (x ∷ xs) ys =
      insert_sound x (mul_monomial xs ys) ∙ ap (λ z. env x ⊗ z) (mul_monomial_sound xs ys) ∙ sym (mul_assoc (env x) (eval_monomial o env xs) (eval_monomial o env ys))

  -- (a - b) + (c - d) = (a + c) - (b + d)
  diff_add : (a b c d : A) → (a ⊕ c) ⊕ ⊖ (b ⊕ d) ≡ (a ⊕ ⊖ b) ⊕ (c ⊕ ⊖ d)
  diff_add a b c d = ap (λ z. (a ⊕ c) ⊕ z) (R.neg-add o L b d) ∙ R.swap o L a c (⊖ b) (⊖ d)

  diff_neg : (a b : A) → b ⊕ ⊖ a ≡ ⊖ (a ⊕ ⊖ b)
  diff_neg a b = add_comm b (⊖ a) ∙ ap (λ z. ⊖ a ⊕ z) (sym (R.neg-neg o L b)) ∙ sym (R.neg-add o L a (⊖ b))

  -- x (c - d) = x c - x d
  diff_scale : (x c d : A) → x ⊗ c ⊕ ⊖ (x ⊗ d) ≡ x ⊗ (c ⊕ ⊖ d)
  diff_scale x c d = ap (λ z. x ⊗ c ⊕ z) (sym (R.mul-neg o L x d)) ∙ sym (mul-add x c (⊖ d))

  diff_mul : (a b c d : A) → (a ⊗ c ⊕ b ⊗ d) ⊕ ⊖ (a ⊗ d ⊕ b ⊗ c) ≡ (a ⊕ ⊖ b) ⊗ (c ⊕ ⊖ d)
  diff_mul a b c d =
      diff_add (a ⊗ c) (a ⊗ d) (b ⊗ d) (b ⊗ c)
      ∙ ap₂ ◌⊕◌ (diff_scale a c d) (diff_neg (b ⊗ c) (b ⊗ d) ∙ ap ⊖ (diff_scale b c d) ∙ sym (R.neg-mul o L b (c ⊕ ⊖ d)))
      ∙ sym (R.add-mul o L a (⊖ b) (c ⊕ ⊖ d))

  coeff_add : (p n p' n' : ℕ) → coeff o env (p + p') (n + n') ≡ coeff o env p n ⊕ coeff o env p' n'
  coeff_add p n p' n' =
      ap₂ (λ x y. x ⊕ ⊖ y) (M.multiple-add o L p p') (M.multiple-add o L n n') ∙ diff_add (multiple o p) (multiple o n) (multiple o p') (multiple o n')

  coeff_mul : (p n p' n' : ℕ) → coeff o env (p * p' + n * n') (p * n' + n * p') ≡ coeff o env p n ⊗ coeff o env p' n'
  coeff_mul p n p' n' =
      ap₂ (λ x y. x ⊕ ⊖ y) (sum p p' n n') (sum p n' n p') ∙ diff_mul (multiple o p) (multiple o n) (multiple o p') (multiple o n')
    where
      sum : (a b c d : ℕ) → multiple o (a * b + c * d) ≡ multiple o a ⊗ multiple o b ⊕ multiple o c ⊗ multiple o d
      sum a b c d = M.multiple-add o L (a * b) (c * d) ∙ ap₂ ◌⊕◌ (M.multiple-mul o L a b) (M.multiple-mul o L c d)

  add_to_sound : (p n k : ℕ) (m : List ℕ) (f : Normal → Normal) (r : A) → ((q : Normal) → eval_normal o env (f q) ≡ r ⊕ eval_normal o env q)
      → (q : Normal) → eval_normal o env (add_to p n k m f q) ≡ (coeff o env p n ⊗ eval_monomial o env m ⊕ r) ⊕ eval_normal o env q
  unfolding same
  add_to_sound p n k m f r h nil =
      ap (λ z. coeff o env p n ⊗ eval_monomial o env m ⊕ z) (h nil) ∙ sym (add_assoc (coeff o env p n ⊗ eval_monomial o env m) r 𝟘)
  add_to_sound p n k m f r h (cons p' n' k' m' q) =
      elim (compare k k') as (λ c. eval_normal o env (elim c [
        | Ordering.lt ↦ cons p n k m (f (cons p' n' k' m' q))
        | Ordering.eq ↦ elim (same_monomial m m') [ true ↦ cons (p + p') (n + n') k m (f q) | false ↦ cons p n k m (f (cons p' n' k' m' q)) ]
        | Ordering.gt ↦ cons p' n' k' m' (add_to p n k m f q)
      ]) ≡ (x ⊕ r) ⊕ (x' ⊕ eval_normal o env q)) [
        | Ordering.lt ↦ first
        | Ordering.eq ↦ same (same_monomial m m') (same_monomial_sound m m')
        | Ordering.gt ↦ ap (λ z. x' ⊕ z) (add_to_sound p n k m f r h q) ∙ R.add_left_comm o L x' (x ⊕ r) (eval_normal o env q)
      ]
    where
      x : A
      x = coeff o env p n ⊗ eval_monomial o env m

      x' : A
      x' = coeff o env p' n' ⊗ eval_monomial o env m'

      first : x ⊕ eval_normal o env (f (cons p' n' k' m' q)) ≡ (x ⊕ r) ⊕ (x' ⊕ eval_normal o env q)
      first = ap (λ z. x ⊕ z) (h (cons p' n' k' m' q)) ∙ sym (add_assoc x r (x' ⊕ eval_normal o env q))

      joined : m ≡ m' → coeff o env (p + p') (n + n') ⊗ eval_monomial o env m ≡ x ⊕ x'
      joined e =
          ap (λ z. z ⊗ eval_monomial o env m) (coeff_add p n p' n') ∙ R.add-mul o L (coeff o env p n) (coeff o env p' n') (eval_monomial o env m)
          ∙ ap (λ z. x ⊕ coeff o env p' n' ⊗ eval_monomial o env z) e

      same : (b : Bool) → (T b → m ≡ m')
          → eval_normal o env (elim b [ true ↦ cons (p + p') (n + n') k m (f q) | false ↦ cons p n k m (f (cons p' n' k' m' q)) ]) ≡ (x ⊕ r) ⊕ (x' ⊕ eval_normal o env q)
      same true e = ap₂ ◌⊕◌ (joined (e tt)) (h q) ∙ R.swap o L x x' r (eval_normal o env q)
      same false e = first

  add_normal_sound : (a b : Normal) → eval_normal o env (add_normal a b) ≡ eval_normal o env a ⊕ eval_normal o env b
  unfolding same
  add_normal_sound nil b = sym (R.zero-add o L (eval_normal o env b))
  add_normal_sound (cons p n k m a) b = add_to_sound p n k m (add_normal a) (eval_normal o env a) (add_normal_sound a) b

  neg_normal_sound : (a : Normal) → eval_normal o env (neg_normal a) ≡ ⊖ (eval_normal o env a)
  unfolding same
  neg_normal_sound nil = sym (R.neg-zero o L)
  neg_normal_sound (cons p n k m a) =
      ap₂ ◌⊕◌ (ap (λ z. z ⊗ eval_monomial o env m) (diff_neg (multiple o p) (multiple o n)) ∙ R.neg-mul o L (coeff o env p n) (eval_monomial o env m)) (neg_normal_sound a)
      ∙ sym (R.neg-add o L (coeff o env p n ⊗ eval_monomial o env m) (eval_normal o env a))

  mul_term_sound : (p n k : ℕ) (m : List ℕ) (b : Normal) → eval_normal o env (mul_term p n k m b) ≡ (coeff o env p n ⊗ eval_monomial o env m) ⊗ eval_normal o env b
  unfolding same
  mul_term_sound p n k m nil = sym (R.mul-zero o L (coeff o env p n ⊗ eval_monomial o env m))
  mul_term_sound p n k m (cons p' n' k' m' b) =
      ap₂ ◌⊕◌ (ap₂ ◌⊗◌ (coeff_mul p n p' n') (mul_monomial_sound m m') ∙ R.mul_swap o L (coeff o env p n) (coeff o env p' n') (eval_monomial o env m) (eval_monomial o env m')) (mul_term_sound p n k m b)
      ∙ sym (mul-add (coeff o env p n ⊗ eval_monomial o env m) (coeff o env p' n' ⊗ eval_monomial o env m') (eval_normal o env b))

  mul_normal_sound : (a b : Normal) → eval_normal o env (mul_normal a b) ≡ eval_normal o env a ⊗ eval_normal o env b
  unfolding same
  mul_normal_sound nil b = sym (R.zero-mul o L (eval_normal o env b))
  mul_normal_sound (cons p n k m a) b =
      add_normal_sound (mul_term p n k m b) (mul_normal a b) ∙ ap₂ ◌⊕◌ (mul_term_sound p n k m b) (mul_normal_sound a b)
      ∙ sym (R.add-mul o L (coeff o env p n ⊗ eval_monomial o env m) (eval_normal o env a) (eval_normal o env b))

  -- the coefficient 1 - 0
  coeff_one : (x : A) → ((𝟙 ⊕ 𝟘) ⊕ ⊖ 𝟘) ⊗ x ⊕ 𝟘 ≡ x
  coeff_one x =
      add-zero _ ∙ ap (λ z. z ⊗ x) (ap₂ ◌⊕◌ (add-zero 𝟙) (R.neg-zero o L) ∙ add-zero 𝟙) ∙ R.one-mul o L x

  normal_sound : (e : Expr) → eval_normal o env (normal e) ≡ eval o env e
  unfolding same
  normal_sound (var x) = coeff_one (env x ⊗ 𝟙) ∙ mul-one (env x)
  normal_sound 𝟎 = refl
  normal_sound 𝟏 = coeff_one 𝟙
  normal_sound (a ⊞ b) = add_normal_sound (normal a) (normal b) ∙ ap₂ ◌⊕◌ (normal_sound a) (normal_sound b)
  normal_sound (⊟ a) = neg_normal_sound (normal a) ∙ ap ⊖ (normal_sound a)
  normal_sound (a ⊠ b) = mul_normal_sound (normal a) (normal b) ∙ ap₂ ◌⊗◌ (normal_sound a) (normal_sound b)

  is_zero_sound : (q : Normal) → T (is_zero q) → eval_normal o env q ≡ 𝟘
  unfolding same
  is_zero_sound nil t = refl
  is_zero_sound (cons p n k m q) t =
      ap₂ ◌⊕◌ (ap (λ z. (multiple o p ⊕ ⊖ (multiple o z)) ⊗ eval_monomial o env m) (sym (eqb→eq p n (both_left (eqb p n) (is_zero q) t)))
      ∙ ap (λ z. z ⊗ eval_monomial o env m) (add-neg (multiple o p)) ∙ R.zero-mul o L (eval_monomial o env m))
      (is_zero_sound q (both_right (eqb p n) (is_zero q) t))
      ∙ add-zero 𝟘

  pub solve : (a b : Expr) → T (same a b) → eval o env a ≡ eval o env b
  unfolding same
  solve a b t = R.sub-zero o L (eval o env a) (eval o env b) (sym (normal_sound (a ⊞ ⊟ b)) ∙ is_zero_sound (normal (a ⊞ ⊟ b)) t)

  clean_sound : (q : Normal) → eval_normal o env (clean q) ≡ eval_normal o env q
  unfolding left
  clean_sound nil = refl
  clean_sound (cons p n k m q) = step (eqb p n) (eqb→eq p n) (clean_sound q)
    where
      step : (b : Bool) → (T b → p ≡ n) → eval_normal o env (clean q) ≡ eval_normal o env q → eval_normal o env (elim b [ true ↦ clean q | false ↦ cons p n k m (clean q) ]) ≡ coeff o env p n ⊗ eval_monomial o env m ⊕ eval_normal o env q
      step true e ih =
          ih ∙ sym (R.zero-add o L (eval_normal o env q))
          ∙ ap (λ z. z ⊕ eval_normal o env q) (sym (R.zero-mul o L (eval_monomial o env m)) ∙ ap (λ z. z ⊗ eval_monomial o env m) (sym (add-neg (multiple o p))) ∙ ap (λ z. coeff o env p z ⊗ eval_monomial o env m) (e tt))
      step false e ih = ap (λ z. coeff o env p n ⊗ eval_monomial o env m ⊕ z) ih

  pub explain : (a b : Expr) → left a b ≡ nil → eval o env a ≡ eval o env b
  unfolding left
  explain a b h =
      R.sub-zero o L (eval o env a) (eval o env b)
      (sym (normal_sound (a ⊞ ⊟ b)) ∙ sym (clean_sound (normal (a ⊞ ⊟ b))) ∙ ap (eval_normal o env) h)

  -- a - b = k (l - r) in every ring, and l = r in this one: then a = b
  pub solve_by : (l r k a b : Expr) → eval o env l ≡ eval o env r → T (same (a ⊞ ⊟ b) (k ⊠ (l ⊞ ⊟ r))) → eval o env a ≡ eval o env b
  solve_by l r k a b h t =
      R.sub-zero o L (eval o env a) (eval o env b)
      (solve (a ⊞ ⊟ b) (k ⊠ (l ⊞ ⊟ r)) t
      ∙ ap (λ z. eval o env k ⊗ (eval o env l ⊕ ⊖ z)) (sym h)
      ∙ ap (λ z. eval o env k ⊗ z) (add-neg (eval o env l)) ∙ R.mul-zero o L (eval o env k))

-- the same as theorems over every ring on A
pub identity : {A : Type 0} (a b : Expr) → T (same a b) → Holds A a b
identity a b t = record { holds = λ o L env. solve o L env a b t }

pub identity_explained : {A : Type 0} (a b : Expr) → left a b ≡ nil → Holds A a b
identity_explained a b h = record { holds = λ o L env. explain o L env a b h }

pub consequence : {A : Type 0} (l r k a b : Expr) → T (same (a ⊞ ⊟ b) (k ⊠ (l ⊞ ⊟ r))) → Follows A l r a b
consequence l r k a b t = record { follows = λ o L env h. solve_by o L env l r k a b h t }
