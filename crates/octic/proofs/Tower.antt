-- The octic extension is the quadratic extension, by a root of X² - Y, of the quartic extension by a root Y of Y⁴ - w.
use Rattle.std.proofs.Common.{◌≡◌, ℕ, [], ◌∷◌, ◌++◌, refl}
use Rattle.algebra.specs.Ring.{Ops, Laws}
use Rattle.algebra.specs.Units.{Inverts}
use Rattle.algebra.specs.Expr.{Expr, var, 𝟎, 𝟏, ◌⊠◌, exprs, same, among}
use Rattle.extensions.specs.Tuples.{Tuple, entries}
use Rattle.extensions.specs.Schoolbook.{binomial}
use Rattle.extensions.specs.Extensions.{extend}
use Rattle.extensions.proofs.Tuples.{vars, solves}
use Rattle.extensions.proofs.Products.{binomial_laws, quartic_passes}
use Rattle.quartic.proofs.Tower.{tower_inverse, tower_norm}
use Rattle.octic.specs.Octuples.{split, octic_norm_of}

-- the coefficients of even and odd powers, in their order again
abbrev pub join : {A : Type 0} → Tuple 2 (Tuple 4 A) → Tuple 8 A
join t = (t.0.0, (t.1.0.0, (t.0.1.0, (t.1.0.1.0, (t.0.1.1.0, (t.1.0.1.1.0, (t.0.1.1.1.0, (t.1.0.1.1.1.0, tt))))))))

module _ {A : Type 0} (o : Ops A) (L : Laws o) (w : A) where
  -- the ring below, and its root Y
  abbrev quartic : Ops (Tuple 4 A)
  quartic = extend 3 o (binomial 4 o w)

  abbrev root : Tuple 4 A
  root = (o.zero, (o.one, (o.zero, (o.zero, tt))))

  -- Y times an element: its coefficients go round by one place, and the last comes first, times w
  pub root_mul : (t : Tuple 4 A) → binomial 4 o w root t ≡ (o.mul w t.1.1.1.0, (t.0, (t.1.0, (t.1.1.0, tt))))
  unfolding same
  root_mul t =
      solves o L (among o (entries 4 t ++ w ∷ [])) 4
      (binomial 4 exprs (var 4) (𝟎, (𝟏, (𝟎, (𝟎, tt)))) (vars 4 0)) (var 4 ⊠ var 3, (var 0, (var 1, (var 2, tt)))) tt

  -- products go over into products of the extension of the ring below
  pub split_mul : (a b : Tuple 8 A) → split (binomial 8 o w a b) ≡ binomial 2 quartic root (split a) (split b)
  unfolding same
  split_mul a b =
      let env : ℕ → A = among o (entries 8 a ++ entries 8 b ++ w ∷ []) in
      let p : Tuple 2 (Tuple 4 Expr) = split (binomial 8 exprs (var 16) (vars 8 0) (vars 8 8)) in
      let q : Tuple 2 (Tuple 4 Expr) = binomial 2 (extend 3 exprs (binomial 4 exprs (var 16))) (𝟎, (𝟏, (𝟎, (𝟎, tt)))) (split (vars 8 0)) (split (vars 8 8)) in
      λ i. (solves o L env 4 p.0 q.0 tt i, (solves o L env 4 p.1.0 q.1.0 tt i, tt))

  -- an inverse of the norm gives one of the element: the conjugate times it
  pub octic_inverse : (a : Tuple 8 A) (n : Tuple 4 A) → Inverts quartic (octic_norm_of o w a) n
      → Inverts (extend 7 o (binomial 8 o w)) a (join (quartic.mul (split a).0 n, (quartic.neg (quartic.mul (split a).1.0 n), tt)))
  octic_inverse =
      tower_inverse quartic (binomial_laws 3 quartic_passes o L w) root (extend 7 o (binomial 8 o w)) split join (λ t. refl) (λ c. refl) split_mul refl

  -- an inverse of the element gives one of the norm
  pub octic_norm_inverse : (a b : Tuple 8 A) → Inverts (extend 7 o (binomial 8 o w)) a b → Inverts quartic (octic_norm_of o w a) (octic_norm_of o w b)
  octic_norm_inverse =
      tower_norm quartic (binomial_laws 3 quartic_passes o L w) root (extend 7 o (binomial 8 o w)) split join (λ t. refl) (λ c. refl) split_mul refl
