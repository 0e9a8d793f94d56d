-- The products of the extensions are associative and commutative, have one, and distribute over the sum. Said once for every formula that means itself over
-- expressions; that a formula passes the test is then computed, degree by degree.
use Rattle.std.proofs.Common.{◌≡◌, ℕ, suc, ◌+◌, Bool, ◌&&◌, T, [], ◌∷◌, ◌++◌, sym, refl, ap, ◌∙◌, ap₂, append_assoc, one-add, length-append}
use native.Mathlib.Nat as Nat
use Rattle.algebra.specs.Ring.{Ops, Laws}
use Rattle.algebra.specs.Expr.{Expr, var, 𝟎, 𝟏, ◌⊞◌, ◌⊠◌, exprs, eval, same, among}
use Rattle.extensions.specs.Tuples.{Tuple, entries, each, both, fill}
use Rattle.extensions.specs.Schoolbook.{binomial, trinomial}
use Rattle.extensions.specs.Extensions.{extend}
use Rattle.extensions.specs.Conjugates.{embed, scaled}
use Rattle.extensions.proofs.Natural.{each_both, each-each, each-fill, entries-length, vars_read, binomial-eval}
use Rattle.extensions.proofs.Tuples.{sames, vars, solves, both_assoc, both_comm, both-fill, both-each, and_left, and_right}

-- a formula for a product of tuples, over any operations
abbrev pub Formula : ℕ → Type 1
Formula n = (A : Type 0) → Ops A → A → Tuple n A → Tuple n A → Tuple n A

one_more : {m n : ℕ} → m ≡ n → suc m ≡ 1 + n
one_more {m} {n} e = ap suc e ∙ sym (one-add n)

-- the test of a formula: the four laws of a product, on variables
module _ (d : ℕ) (F : Formula (suc d)) where
  -- the constant is the first variable, and three tuples follow
  abbrev x : Tuple (suc d) Expr
  x = vars (suc d) 1

  abbrev y : Tuple (suc d) Expr
  y = vars (suc d) (1 + suc d)

  abbrev z : Tuple (suc d) Expr
  z = vars (suc d) (1 + suc d + suc d)

  abbrev mul : Tuple (suc d) Expr → Tuple (suc d) Expr → Tuple (suc d) Expr
  mul = F Expr exprs (var 0)

  abbrev add : Tuple (suc d) Expr → Tuple (suc d) Expr → Tuple (suc d) Expr
  add = both (suc d) ◌⊞◌

  abbrev unit : Tuple (suc d) Expr
  unit = (𝟏, fill d 𝟎)

  abbrev associative : Bool
  associative = sames (suc d) (mul (mul x y) z) (mul x (mul y z))

  abbrev commutative : Bool
  commutative = sames (suc d) (mul x y) (mul y x)

  abbrev neutral : Bool
  neutral = sames (suc d) (mul x unit) x

  abbrev distributive : Bool
  distributive = sames (suc d) (mul x (add y z)) (add (mul x y) (mul x z))

  -- a factor from the layer below multiplies each coefficient
  abbrev scaling : Bool
  scaling = sames (suc d) (mul x (y.0, fill d 𝟎)) (each (suc d) (λ t. t ⊠ y.0) x)

  abbrev pub passes : Bool
  passes = associative && (commutative && (neutral && (distributive && scaling)))

module _ (d : ℕ) (F : Formula (suc d))
    (means : (A : Type 0) (o : Ops A) (env : ℕ → A) (u : Expr) (s t : Tuple (suc d) Expr)
    → each (suc d) (eval o env) (F Expr exprs u s t) ≡ F A o (eval o env u) (each (suc d) (eval o env) s) (each (suc d) (eval o env) t))
    (test : T (passes d F)) where
  module _ {A : Type 0} (o : Ops A) (L : Laws o) (w : A) where
    abbrev F' : Tuple (suc d) A → Tuple (suc d) A → Tuple (suc d) A
    F' = F A o w

    module _ (a b c : Tuple (suc d) A) where
      abbrev env : ℕ → A
      env = among o (w ∷ (entries (suc d) a ++ (entries (suc d) b ++ (entries (suc d) c ++ []))))

      abbrev on : Tuple (suc d) Expr → Tuple (suc d) A
      on = each (suc d) (eval o env)

      is_a : on (x d F) ≡ a
      is_a = vars_read o (suc d) 1 (w ∷ []) a _ refl

      is_b : on (y d F) ≡ b
      is_b =
          vars_read o (suc d) (1 + suc d) (w ∷ entries (suc d) a) b (entries (suc d) c ++ [])
          (one_more (entries-length A (suc d) a))

      is_c : on (z d F) ≡ c
      is_c =
          ap (λ l. each (suc d) (eval o (among o (w ∷ l))) (z d F)) (sym (append_assoc (entries (suc d) a) (entries (suc d) b) (entries (suc d) c ++ [])))
          ∙ vars_read o (suc d) (1 + suc d + suc d) (w ∷ (entries (suc d) a ++ entries (suc d) b)) c []
          (one_more (length-append (entries (suc d) a) (entries (suc d) b) ∙ ap₂ ◌+◌ (entries-length A (suc d) a) (entries-length A (suc d) b)) ∙ sym (Nat.add_assoc 1 (suc d) (suc d)))

      -- what the formula gives on variables that mean tuples
      on_mul : (s t : Tuple (suc d) Expr) (p q : Tuple (suc d) A) → on s ≡ p → on t ≡ q → on (mul d F s t) ≡ F' p q
      on_mul s t p q e f = means A o env (var 0) s t ∙ ap₂ F' e f

      on_add : (s t : Tuple (suc d) Expr) (p q : Tuple (suc d) A) → on s ≡ p → on t ≡ q → on (add d F s t) ≡ both (suc d) o.add p q
      on_add s t p q e f = each_both (eval o env) ◌⊞◌ o.add (λ u v. refl) (suc d) s t ∙ ap₂ (both (suc d) o.add) e f

      on_unit : on (unit d F) ≡ (extend d o F').one
      on_unit = λ i. (o.one, each-fill (eval o env) d 𝟎 i)

      mul_assoc : F' (F' a b) c ≡ F' a (F' b c)
      mul_assoc =
          sym (on_mul (mul d F (x d F) (y d F)) (z d F) _ _ (on_mul (x d F) (y d F) _ _ is_a is_b) is_c)
          ∙ solves o L env (suc d) _ _ (and_left (associative d F) _ test)
          ∙ on_mul (x d F) (mul d F (y d F) (z d F)) _ _ is_a (on_mul (y d F) (z d F) _ _ is_b is_c)

      mul_comm : F' a b ≡ F' b a
      mul_comm =
          sym (on_mul (x d F) (y d F) _ _ is_a is_b)
          ∙ solves o L env (suc d) _ _ (and_left (commutative d F) _ (and_right (associative d F) _ test))
          ∙ on_mul (y d F) (x d F) _ _ is_b is_a

      mul-one : F' a (extend d o F').one ≡ a
      mul-one =
          sym (on_mul (x d F) (unit d F) _ _ is_a on_unit)
          ∙ solves o L env (suc d) _ _ (and_left (neutral d F) _ (and_right (commutative d F) _ (and_right (associative d F) _ test)))
          ∙ is_a

      mul-add : F' a (both (suc d) o.add b c) ≡ both (suc d) o.add (F' a b) (F' a c)
      mul-add =
          sym (on_mul (x d F) (add d F (y d F) (z d F)) _ _ is_a (on_add (y d F) (z d F) _ _ is_b is_c))
          ∙ solves o L env (suc d) _ _ (and_left (distributive d F) _ (and_right (neutral d F) _ (and_right (commutative d F) _ (and_right (associative d F) _ test))))
          ∙ on_add (mul d F (x d F) (y d F)) (mul d F (x d F) (z d F)) _ _ (on_mul (x d F) (y d F) _ _ is_a is_b) (on_mul (x d F) (z d F) _ _ is_a is_c)

      mul_scalar : F' a (b.0, fill d o.zero) ≡ scaled (suc d) o b.0 a
      mul_scalar =
          sym (on_mul (x d F) ((y d F).0, fill d 𝟎) _ _ is_a (λ i. ((is_b i).0, each-fill (eval o env) d 𝟎 i)))
          ∙ solves o L env (suc d) _ _ (and_right (distributive d F) _ (and_right (neutral d F) _ (and_right (commutative d F) _ (and_right (associative d F) _ test))))
          ∙ each-each (eval o env) (λ t. t ⊠ (y d F).0) (suc d) (x d F)
          ∙ sym (each-each (λ t. o.mul t (eval o env (y d F).0)) (eval o env) (suc d) (x d F))
          ∙ ap₂ (λ u t. scaled (suc d) o u t) (ap (λ t. t.0) is_b) is_a

    -- a factor from the layer below
    pub formula_scales : (a : Tuple (suc d) A) (u : A) → F' a (embed d o u) ≡ scaled (suc d) o u a
    formula_scales a u = mul_scalar a (embed d o u) a

    -- an extension by a formula that passes is a commutative ring with one
    pub formula_laws : Laws (extend d o F')
    formula_laws = record {
      add_assoc = both_assoc o.add L.add_assoc (suc d);
      add_comm = both_comm o.add L.add_comm (suc d);
      add-zero = both-fill o.add o.zero L.add-zero (suc d);
      add-neg = both-each o.add o.zero o.neg L.add-neg (suc d);
      mul_assoc = mul_assoc;
      mul_comm = λ a b. mul_comm a b a;
      mul-one = λ a. mul-one a a a;
      mul-add = mul-add;
    }

-- the binomials of every degree that passes
pub binomial_laws : (d : ℕ) → T (passes d (λ A o w. binomial (suc d) o w)) → {A : Type 0} (o : Ops A) → Laws o → (w : A) → Laws (extend d o (binomial (suc d) o w))
binomial_laws d test o L w = formula_laws d (λ A o w. binomial (suc d) o w) (λ A o env u s t. binomial-eval o env (suc d) u s t) test o L w

pub binomial_scales : (d : ℕ) → T (passes d (λ A o w. binomial (suc d) o w)) → {A : Type 0} (o : Ops A) → Laws o → (w : A) (a : Tuple (suc d) A) (u : A)
    → binomial (suc d) o w a (embed d o u) ≡ scaled (suc d) o u a
binomial_scales d test o L w = formula_scales d (λ A o w. binomial (suc d) o w) (λ A o env u s t. binomial-eval o env (suc d) u s t) test o L w

pub trinomial_laws : {A : Type 0} (o : Ops A) → Laws o → Laws (extend 4 o (trinomial o))
unfolding same
trinomial_laws o L = formula_laws 4 (λ A o w. trinomial o) (λ A o env u s t. refl) tt o L o.zero

pub trinomial_scales : {A : Type 0} (o : Ops A) → Laws o → (a : Tuple 5 A) (u : A) → trinomial o a (embed 4 o u) ≡ scaled 5 o u a
unfolding same
trinomial_scales o L = formula_scales 4 (λ A o w. trinomial o) (λ A o env u s t. refl) tt o L o.zero

pub quadratic_passes : T (passes 1 (λ A o w. binomial 2 o w))
unfolding same
quadratic_passes = tt

pub cubic_passes : T (passes 2 (λ A o w. binomial 3 o w))
unfolding same
cubic_passes = tt

pub quartic_passes : T (passes 3 (λ A o w. binomial 4 o w))
unfolding same
quartic_passes = tt

pub quintic_passes : T (passes 4 (λ A o w. binomial 5 o w))
unfolding same
quintic_passes = tt

pub octic_passes : T (passes 7 (λ A o w. binomial 8 o w))
unfolding same
octic_passes = tt
