-- What an entry more at the end, the first one taken away and one put in the place of another make of a sheet's sum, of its power and of its bound.
use Rattle.std.proofs.Common.{◌≡◌, ℕ, suc, ◌<◌, List, [], ◌∷◌, ◌++◌, map, length, get_or, set, sym, ap, ◌∙◌, add-one, arith, length-append}
use Prim.Native.Nat as N
use Rattle.algebra.specs.Expr.{var, 𝟏, ◌⊞◌, ⊟, ◌⊠◌, same, among}
use Rattle.algebra.specs.Ring.{Ops, Laws, sub, multiple, power}
use Rattle.algebra.specs.Units.{Inverts}
use Rattle.algebra.specs.Polynomial.{value}
use Rattle.algebra.proofs.Laws as R
use Rattle.algebra.proofs.Polynomials.{horner}
use Rattle.algebra.proofs.Solver.{solve, solve_by}
use Rattle.reading.specs.Sheet.{Below}

pub below_append : (limit : ℕ) (L : List ℕ) (e : ℕ) → Below limit L → e < limit → Below limit (L ++ (e ∷ []))
below_append limit [] e below h = (h, tt)
below_append limit (d ∷ L) e below h = (below.0, below_append limit L e below.1 h)

pub below_set : (limit : ℕ) (L : List ℕ) (i e : ℕ) → Below limit L → e < limit → Below limit (set L i e)
below_set limit [] i e below h = tt
below_set limit (d ∷ L) N.zero e below h = (h, below.1)
below_set limit (d ∷ L) (suc i) e below h = (below.0, below_set limit L i e below.1 h)

pub below_at : (limit : ℕ) (L : List ℕ) (i : ℕ) → Below limit L → i < length L → get_or L i 0 < limit
below_at limit [] i below h = absurd (omega arith)
below_at limit (d ∷ L) N.zero below h = below.0
below_at limit (d ∷ L) (suc i) below h = below_at limit L i below.1 (omega arith)

module _ {A : Type 0} (o : Ops A) (W : Laws o) where
  infixl 60 ◌⊕◌
  infixl 70 ◌⊗◌
  open o use {add as ◌⊕◌, mul as ◌⊗◌, neg as ⊖, zero as 𝟘, one as 𝟙}
  open W use {add-zero, mul_comm, mul-one}

  -- the sum of a sheet at x
  abbrev at : A → List ℕ → A
  at x L = value o x (map (multiple o) L)

  at_cons : (x : A) (e : ℕ) (L : List ℕ) → at x (e ∷ L) ≡ multiple o e ⊕ x ⊗ at x L
  at_cons x e L = horner o W x (multiple o e) (map (multiple o) L)

  -- an entry more at the end adds the entry times the power
  pub sum_append : (x : A) (L : List ℕ) (e : ℕ) → at x (L ++ (e ∷ [])) ≡ at x L ⊕ multiple o e ⊗ power o x (length L)
  unfolding same
  sum_append x [] e = add-zero (multiple o e ⊗ 𝟙) ∙ sym (R.zero-add o W (multiple o e ⊗ 𝟙))
  sum_append x (d ∷ L) e =
      let p = power o x (length L) in
      let d' = var 0 in let x' = var 1 in let v' = var 2 in let e' = var 3 in let p' = var 4 in
      at_cons x d (L ++ (e ∷ [])) ∙ ap (λ t. multiple o d ⊕ x ⊗ t) (sum_append x L e)
      ∙ solve o W (among o (multiple o d ∷ x ∷ at x L ∷ multiple o e ∷ p ∷ [])) (d' ⊞ x' ⊠ (v' ⊞ e' ⊠ p')) ((d' ⊞ x' ⊠ v') ⊞ e' ⊠ (x' ⊠ p')) tt
      ∙ ap (λ t. t ⊕ multiple o e ⊗ (x ⊗ p)) (sym (at_cons x d L))

  -- the first entry taken off, and the inverse of x as a factor
  pub sum_drop : (x i : A) (e : ℕ) (L : List ℕ) → Inverts o x i → sub o (at x (e ∷ L)) (multiple o e) ⊗ i ≡ at x L
  unfolding same
  sum_drop x i e L inverts =
      let x' = var 0 in let i' = var 1 in let e' = var 2 in let v' = var 3 in
      ap (λ t. sub o t (multiple o e) ⊗ i) (at_cons x e L)
      ∙ solve_by o W (among o (x ∷ i ∷ multiple o e ∷ at x L ∷ [])) (x' ⊠ i') 𝟏 v' ((e' ⊞ x' ⊠ v' ⊞ ⊟ e') ⊠ i') v' inverts tt

  -- one entry in the place of another adds their difference times the power of the place
  pub sum_set : (x : A) (L : List ℕ) (i e : ℕ) → i < length L → at x (set L i e) ≡ at x L ⊕ sub o (multiple o e) (multiple o (get_or L i 0)) ⊗ power o x i
  unfolding same
  sum_set x [] i e h = absurd (omega arith)
  sum_set x (d ∷ L) N.zero e h =
      let e' = var 0 in let d' = var 1 in let x' = var 2 in let v' = var 3 in
      at_cons x e L
      ∙ solve o W (among o (multiple o e ∷ multiple o d ∷ x ∷ at x L ∷ [])) (e' ⊞ x' ⊠ v') ((d' ⊞ x' ⊠ v') ⊞ (e' ⊞ ⊟ d') ⊠ 𝟏) tt
      ∙ ap (λ t. t ⊕ sub o (multiple o e) (multiple o d) ⊗ 𝟙) (sym (at_cons x d L))
  sum_set x (d ∷ L) (suc i) e h =
      let f = sub o (multiple o e) (multiple o (get_or L i 0)) in
      let p = power o x i in
      let d' = var 0 in let x' = var 1 in let v' = var 2 in let f' = var 3 in let p' = var 4 in
      at_cons x d (set L i e) ∙ ap (λ t. multiple o d ⊕ x ⊗ t) (sum_set x L i e (omega arith))
      ∙ solve o W (among o (multiple o d ∷ x ∷ at x L ∷ f ∷ p ∷ [])) (d' ⊞ x' ⊠ (v' ⊞ f' ⊠ p')) ((d' ⊞ x' ⊠ v') ⊞ f' ⊠ (x' ⊠ p')) tt
      ∙ ap (λ t. t ⊕ f ⊗ (x ⊗ p)) (sym (at_cons x d L))

  -- one power more
  pub power_next : (x : A) (n : ℕ) → power o x n ⊗ x ≡ power o x (suc n)
  power_next x n = mul_comm (power o x n) x

  -- the power of the count, once an entry more stands at the end
  pub power-append : (x : A) (L : List ℕ) (e : ℕ) → power o x (length L) ⊗ x ≡ power o x (length (L ++ (e ∷ [])))
  power-append x L e = power_next x (length L) ∙ ap (power o x) (sym (length-append L (e ∷ []) ∙ add-one (length L)))

  -- one power less
  pub power-drop : (x i : A) (n : ℕ) → Inverts o x i → power o x (suc n) ⊗ i ≡ power o x n
  unfolding same
  power-drop x i n inverts =
      let x' = var 0 in let i' = var 1 in let p' = var 2 in
      solve_by o W (among o (x ∷ i ∷ power o x n ∷ [])) (x' ⊠ i') 𝟏 p' ((x' ⊠ p') ⊠ i') p' inverts tt
