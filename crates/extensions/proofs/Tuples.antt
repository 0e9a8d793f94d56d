-- Tuples place by place, and equations between tuples of expressions by the solver.
use Rattle.std.proofs.Common.{◌≡◌, ℕ, suc, ◌+◌, ◌<◌, Bool, true, false, ◌&&◌, T, get_or, refl, arith}
use Prim.Native.Nat as N
use Rattle.algebra.specs.Ring.{Ops, Laws}
use Rattle.algebra.specs.Expr.{Expr, var, eval, same}
use Rattle.algebra.proofs.Solver.{solve}
use Rattle.extensions.specs.Tuples.{Tuple, entries, tabulate, each, both, fill}

module _ {A : Type 0} (f : A → A → A) where
  pub both_assoc : ((x y z : A) → f (f x y) z ≡ f x (f y z)) → (n : ℕ) (s t u : Tuple n A) → both n f (both n f s t) u ≡ both n f s (both n f t u)
  both_assoc h N.zero s t u = refl
  both_assoc h (suc n) s t u = λ i. (h s.0 t.0 u.0 i, both_assoc h n s.1 t.1 u.1 i)

  pub both_comm : ((x y : A) → f x y ≡ f y x) → (n : ℕ) (s t : Tuple n A) → both n f s t ≡ both n f t s
  both_comm h N.zero s t = refl
  both_comm h (suc n) s t = λ i. (h s.0 t.0 i, both_comm h n s.1 t.1 i)

  pub both-fill : (z : A) → ((x : A) → f x z ≡ x) → (n : ℕ) (s : Tuple n A) → both n f s (fill n z) ≡ s
  both-fill z h N.zero s = refl
  both-fill z h (suc n) s = λ i. (h s.0 i, both-fill z h n s.1 i)

  pub both-each : (z : A) (g : A → A) → ((x : A) → f x (g x) ≡ z) → (n : ℕ) (s : Tuple n A) → both n f s (each n g s) ≡ fill n z
  both-each z g h N.zero s = refl
  both-each z g h (suc n) s = λ i. (h s.0 i, both-each z g h n s.1 i)

-- f of both elements, where one has been mapped by g
pub both_of_each : {A : Type 0} (f : A → A → A) (g : A → A) (n : ℕ) (s t : Tuple n A) → both n (λ x y. f x (g y)) s t ≡ both n f s (each n g t)
both_of_each f g N.zero s t = refl
both_of_each f g (suc n) s t = λ i. (f s.0 (g t.0), both_of_each f g n s.1 t.1 i)

-- a map of one of both elements alone, here of the first
pub both_first : {A : Type 0} (f : A → A) (n : ℕ) (t : Tuple n A) → both n (λ x y. f x) t t ≡ each n f t
both_first f N.zero t = refl
both_first f (suc n) t = λ i. (f t.0, both_first f n t.1 i)

-- the coefficients of a tabulated tuple, zeros beyond the last
pub get_or-tabulate : {A : Type 0} (n : ℕ) (f : ℕ → A) (i : ℕ) (z : A) → i < n → get_or (entries n (tabulate n f)) i z ≡ f i
get_or-tabulate N.zero f i z h = absurd (omega arith)
get_or-tabulate (suc n) f N.zero z h = refl
get_or-tabulate (suc n) f (suc i) z h = get_or-tabulate n (λ j. f (suc j)) i z (omega arith)

-- tuples with equal coefficients are equal
pub tuple_same : {A : Type 0} (n : ℕ) (s t : Tuple n A) (z : A) → ((i : ℕ) → i < n → get_or (entries n s) i z ≡ get_or (entries n t) i z) → s ≡ t
tuple_same N.zero s t z h = refl
tuple_same (suc n) s t z h = λ i. (h 0 (omega arith) i, tuple_same n s.1 t.1 z (λ j l. h (suc j) (omega arith)) i)

-- the solver's test at each place
abbrev pub sames : (n : ℕ) → Tuple n Expr → Tuple n Expr → Bool
sames N.zero s t = true
sames (suc n) s t = same s.0 t.0 && sames n s.1 t.1

-- n variables from number s on
abbrev pub vars : (n s : ℕ) → Tuple n Expr
vars n s = tabulate n (λ i. var (s + i))

pub true_from_T : (b : Bool) → T b → b ≡ true
true_from_T true t = refl
true_from_T false t = absurd t

pub and_left : (a b : Bool) → T (a && b) → T a
and_left true b t = tt
and_left false b t = t

pub and_right : (a b : Bool) → T (a && b) → T b
and_right true b t = t
and_right false b t = absurd t

module _ {A : Type 0} (o : Ops A) (L : Laws o) (env : ℕ → A) where
  pub solves : (n : ℕ) (s t : Tuple n Expr) → T (sames n s t) → each n (eval o env) s ≡ each n (eval o env) t
  solves N.zero s t h = refl
  solves (suc n) s t h =
      let a = same s.0 t.0 in
      let b = sames n s.1 t.1 in
      λ i. (solve o L env s.0 t.0 (and_left a b h) i, solves n s.1 t.1 (and_right a b h) i)
