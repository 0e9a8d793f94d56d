-- The norm of the quadratic extension of any commutative ring, and inverses by it.
use Rattle.std.proofs.Common.{◌≡◌, ℕ, [], ◌∷◌, ◌++◌, sym, ap, ◌∙◌}
use Rattle.algebra.specs.Ring.{Ops, Laws}
use Rattle.algebra.specs.Units.{Inverts}
use Rattle.algebra.specs.Expr.{Expr, var, 𝟏, 𝟎, ◌⊠◌, exprs, same, among}
use Rattle.algebra.proofs.Solver.{solve, solve_by}
use Rattle.extensions.specs.Tuples.{Tuple, entries}
use Rattle.extensions.specs.Schoolbook.{binomial}
use Rattle.extensions.specs.Extensions.{extend}
use Rattle.quadratic.specs.Pairs.{norm}

-- the conjugate, times n
abbrev pub conjugate_times : {A : Type 0} → Ops A → A → Tuple 2 A → Tuple 2 A
conjugate_times o n a = (o.mul a.0 n, (o.mul (o.neg a.1.0) n, tt))

module _ {A : Type 0} (o : Ops A) (L : Laws o) (w : A) where
  pub norm_mul : (a b : Tuple 2 A) → norm o w (binomial 2 o w a b) ≡ o.mul (norm o w a) (norm o w b)
  unfolding same
  norm_mul a b =
      let x : Tuple 2 Expr = (var 0, (var 1, tt)) in
      let y : Tuple 2 Expr = (var 2, (var 3, tt)) in
      solve o L (among o (entries 2 a ++ entries 2 b ++ w ∷ []))
      (norm exprs (var 4) (binomial 2 exprs (var 4) x y)) (norm exprs (var 4) x ⊠ norm exprs (var 4) y) tt

  pub norm_one : norm o w (o.one, (o.zero, tt)) ≡ o.one
  unfolding same
  norm_one = solve o L (λ _. w) (norm exprs (var 0) (𝟏, (𝟎, tt))) 𝟏 tt

  -- an inverse of the norm gives one of the element
  pub inverse_is_by_norm : (a : Tuple 2 A) (n : A) → Inverts o (norm o w a) n → Inverts (extend 1 o (binomial 2 o w)) a (conjugate_times o n a)
  unfolding same
  inverse_is_by_norm a n e =
      let x : Tuple 2 Expr = (var 0, (var 1, tt)) in
      let env : ℕ → A = among o (entries 2 a ++ w ∷ n ∷ []) in
      let p : Tuple 2 Expr = binomial 2 exprs (var 2) x (conjugate_times exprs (var 3) x) in
      λ i. (solve_by o L env (norm exprs (var 2) x ⊠ var 3) 𝟏 𝟏 p.0 𝟏 e tt i, (solve o L env p.1.0 𝟎 tt i, tt))

  -- an inverse of the element gives one of the norm
  pub norm_inverse : (a b : Tuple 2 A) → Inverts (extend 1 o (binomial 2 o w)) a b → Inverts o (norm o w a) (norm o w b)
  norm_inverse a b e = sym (norm_mul a b) ∙ ap (norm o w) e ∙ norm_one
