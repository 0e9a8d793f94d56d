-- A product of tuples of expressions means the product of what they mean.
use Rattle.std.proofs.Common.{◌≡◌, ℕ, suc, ◌+◌, ◌-◌, List, [], ◌∷◌, ◌++◌, map, length, get_or, sym, refl, ap, ◌∙◌, ap₂}
use Prim.Native.Nat as N
use Rattle.std.proofs.lemmas.List.{get_or-append-add}
use Rattle.algebra.specs.Ring.{Ops}
use Rattle.algebra.specs.Expr.{Expr, var, 𝟎, exprs, eval, among}
use Rattle.extensions.specs.Tuples.{Tuple, entries, tabulate, each, both, fill}
use Rattle.extensions.specs.Schoolbook.{sum_to, coefficient, binomial}
use Rattle.extensions.proofs.Tuples.{vars}

pub each-tabulate : {B C : Type 0} (f : B → C) (n : ℕ) (g : ℕ → B) → each n f (tabulate n g) ≡ tabulate n (λ i. f (g i))
each-tabulate f N.zero g = refl
each-tabulate f (suc n) g = λ i. (f (g 0), each-tabulate f n (λ j. g (suc j)) i)

pub tabulate_same : {C : Type 0} (n : ℕ) (f g : ℕ → C) → ((i : ℕ) → f i ≡ g i) → tabulate n f ≡ tabulate n g
tabulate_same N.zero f g h = refl
tabulate_same (suc n) f g h = λ i. (h 0 i, tabulate_same n (λ j. f (suc j)) (λ j. g (suc j)) (λ j. h (suc j)) i)

pub entries-each : {B C : Type 0} (f : B → C) (n : ℕ) (t : Tuple n B) → entries n (each n f t) ≡ map f (entries n t)
entries-each f N.zero t = refl
entries-each f (suc n) t = ap (λ xs. f t.0 ∷ xs) (entries-each f n t.1)

pub each_both : {B C : Type 0} (f : B → C) (g : B → B → B) (h : C → C → C) → ((x y : B) → f (g x y) ≡ h (f x) (f y))
    → (n : ℕ) (s t : Tuple n B) → each n f (both n g s t) ≡ both n h (each n f s) (each n f t)
each_both f g h e N.zero s t = refl
each_both f g h e (suc n) s t = λ i. (e s.0 t.0 i, each_both f g h e n s.1 t.1 i)

pub each-each : {B C D : Type 0} (f : C → D) (g : B → C) (n : ℕ) (t : Tuple n B) → each n f (each n g t) ≡ each n (λ x. f (g x)) t
each-each f g N.zero t = refl
each-each f g (suc n) t = λ i. (f (g t.0), each-each f g n t.1 i)

pub each-fill : {B C : Type 0} (f : B → C) (n : ℕ) (x : B) → each n f (fill n x) ≡ fill n (f x)
each-fill f N.zero x = refl
each-fill f (suc n) x = λ i. (f x, each-fill f n x i)

pub entries-length : (B : Type 0) (n : ℕ) (t : Tuple n B) → length (entries n t) ≡ n
entries-length B N.zero t = refl
entries-length B (suc n) t = ap suc (entries-length B n t.1)

-- the entries of a tuple, one by one, are the tuple
pub tabulate-entries : {B : Type 0} (n : ℕ) (t : Tuple n B) (rest : List B) (z : B) → tabulate n (λ i. get_or (entries n t ++ rest) i z) ≡ t
tabulate-entries N.zero t rest z = refl
tabulate-entries (suc n) t rest z = λ i. (t.0, tabulate-entries n t.1 rest z i)

module _ {A : Type 0} (o : Ops A) where
  -- the variables after those that stand for a list stand for the tuple that follows it
  pub vars_read : (n s : ℕ) (before : List A) (t : Tuple n A) (rest : List A) → length before ≡ s
      → each n (eval o (among o (before ++ (entries n t ++ rest)))) (vars n s) ≡ t
  vars_read n s before t rest e =
      each-tabulate (eval o (among o (before ++ (entries n t ++ rest)))) n (λ i. var (s + i))
      ∙ tabulate_same n (λ i. among o (before ++ (entries n t ++ rest)) (s + i)) (λ i. get_or (entries n t ++ rest) i o.zero)
      (λ i. ap (λ m. among o (before ++ (entries n t ++ rest)) (m + i)) (sym e) ∙ get_or-append-add before (entries n t ++ rest) i o.zero)
      ∙ tabulate-entries n t rest o.zero

module _ {A : Type 0} (o : Ops A) (env : ℕ → A) where
  get_or-eval : (es : List Expr) (i : ℕ) → eval o env (get_or es i 𝟎) ≡ get_or (map (eval o env) es) i o.zero
  get_or-eval [] i = refl
  get_or-eval (e ∷ es) N.zero = refl
  get_or-eval (e ∷ es) (suc i) = get_or-eval es i

  sum_eval : (h : ℕ → Expr) (g : ℕ → A) (k : ℕ) → ((i : ℕ) → eval o env (h i) ≡ g i) → eval o env (sum_to exprs h k) ≡ sum_to o g k
  sum_eval h g N.zero e = e 0
  sum_eval h g (suc k) e = ap₂ o.add (sum_eval h g k e) (e (suc k))

  pub coefficient_eval : (f g : List Expr) (k : ℕ) → eval o env (coefficient exprs f g k) ≡ coefficient o (map (eval o env) f) (map (eval o env) g) k
  coefficient_eval f g k =
      sum_eval (λ i. exprs.mul (get_or f i 𝟎) (get_or g (k - i) 𝟎))
      (λ i. o.mul (get_or (map (eval o env) f) i o.zero) (get_or (map (eval o env) g) (k - i) o.zero)) k
      (λ i. ap₂ o.mul (get_or-eval f i) (get_or-eval g (k - i)))

  pub binomial-eval : (n : ℕ) (u : Expr) (s t : Tuple n Expr)
      → each n (eval o env) (binomial n exprs u s t) ≡ binomial n o (eval o env u) (each n (eval o env) s) (each n (eval o env) t)
  binomial-eval n u s t =
      let c = coefficient exprs (entries n s) (entries n t) in
      let same : (k : ℕ) → eval o env (c k) ≡ coefficient o (entries n (each n (eval o env) s)) (entries n (each n (eval o env) t)) k =
      λ k. coefficient_eval (entries n s) (entries n t) k
      ∙ ap₂ (λ f g. coefficient o f g k) (sym (entries-each (eval o env) n s)) (sym (entries-each (eval o env) n t)) in
      each-tabulate (eval o env) n _
      ∙ tabulate_same n _ _ (λ k. ap₂ (λ p q. o.add p (o.mul (eval o env u) q)) (same k) (same (k + n)))
