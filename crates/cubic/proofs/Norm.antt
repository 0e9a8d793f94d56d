-- The norm of the cubic extension of any commutative ring, and inverses by it.
use Rattle.std.proofs.Common.{◌≡◌, ℕ, [], ◌∷◌, ◌++◌, sym, ap, ◌∙◌}
use Rattle.algebra.specs.Ring.{Ops, Laws, sub}
use Rattle.algebra.specs.Units.{Inverts}
use Rattle.algebra.specs.Expr.{Expr, var, 𝟏, 𝟎, ◌⊠◌, exprs, same, among}
use Rattle.algebra.proofs.Solver.{solve, solve_by}
use Rattle.extensions.specs.Tuples.{Tuple, entries}
use Rattle.extensions.specs.Schoolbook.{binomial}
use Rattle.extensions.specs.Extensions.{extend}
use Rattle.extensions.proofs.Tuples.{vars}
use Rattle.cubic.specs.Triples.{norm}

-- n times the adjugate
abbrev pub adjugate_times : {A : Type 0} → Ops A → A → A → Tuple 3 A → Tuple 3 A
adjugate_times o w n a = (
  o.mul n (sub o (o.mul a.0 a.0) (o.mul a.1.0 (o.mul w a.1.1.0))),
  (
    o.mul n (sub o (o.mul (o.mul w a.1.1.0) a.1.1.0) (o.mul a.0 a.1.0)),
    (o.mul n (sub o (o.mul a.1.0 a.1.0) (o.mul a.0 a.1.1.0)), tt),
  ),
)

module _ {A : Type 0} (o : Ops A) (L : Laws o) (w : A) where
  -- the norm of a product is the product of the norms
  pub norm_mul : (a b : Tuple 3 A) → norm o w (binomial 3 o w a b) ≡ o.mul (norm o w a) (norm o w b)
  unfolding same
  norm_mul a b =
      let x : Tuple 3 Expr = vars 3 0 in
      let y : Tuple 3 Expr = vars 3 3 in
      solve o L (among o (entries 3 a ++ entries 3 b ++ w ∷ []))
      (norm exprs (var 6) (binomial 3 exprs (var 6) x y)) (norm exprs (var 6) x ⊠ norm exprs (var 6) y) tt

  -- the norm of one is one
  pub norm_one : norm o w (o.one, (o.zero, (o.zero, tt))) ≡ o.one
  unfolding same
  norm_one = solve o L (λ _. w) (norm exprs (var 0) (𝟏, (𝟎, (𝟎, tt)))) 𝟏 tt

  -- an inverse of the norm gives one of the element
  pub inverse_is_by_norm : (a : Tuple 3 A) (n : A) → Inverts o (norm o w a) n → Inverts (extend 2 o (binomial 3 o w)) a (adjugate_times o w n a)
  unfolding same
  inverse_is_by_norm a n e =
      let x : Tuple 3 Expr = vars 3 0 in
      let env : ℕ → A = among o (entries 3 a ++ w ∷ n ∷ []) in
      let p : Tuple 3 Expr = binomial 3 exprs (var 3) x (adjugate_times exprs (var 3) (var 4) x) in
      λ i. (
        solve_by o L env (norm exprs (var 3) x ⊠ var 4) 𝟏 𝟏 p.0 𝟏 e tt i,
        (solve o L env p.1.0 𝟎 tt i, (solve o L env p.1.1.0 𝟎 tt i, tt)),
      )

  -- an inverse of the element gives one of the norm
  pub norm_inverse : (a b : Tuple 3 A) → Inverts (extend 2 o (binomial 3 o w)) a b → Inverts o (norm o w a) (norm o w b)
  norm_inverse a b e = sym (norm_mul a b) ∙ ap (norm o w) e ∙ norm_one
