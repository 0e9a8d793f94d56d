-- Towers: a ring whose elements are pairs over a ring below, multiplied as in the quadratic extension of that, has its inverses by the norm.
use Rattle.std.proofs.Common.{◌≡◌, ℕ, [], ◌∷◌, ◌++◌, sym, refl, ap, ◌∙◌}
use Rattle.algebra.specs.Ring.{Ops, Laws}
use Rattle.algebra.specs.Units.{Inverts}
use Rattle.algebra.specs.Expr.{Expr, var, 𝟎, 𝟏, exprs, same, among}
use Rattle.algebra.proofs.Laws as R
use Rattle.extensions.specs.Tuples.{Tuple, entries}
use Rattle.extensions.specs.Schoolbook.{binomial}
use Rattle.extensions.specs.Extensions.{extend}
use Rattle.extensions.proofs.Tuples.{vars, solves}
use Rattle.extensions.proofs.Products.{binomial_laws, quadratic_passes}
use Rattle.quadratic.specs.Pairs.{norm}
use Rattle.quadratic.proofs.Norm.{inverse_is_by_norm, norm_inverse}
use Rattle.quartic.specs.Quadruples.{split, quartic_norm_of}

-- The ring `o` on C is the quadratic extension of the ring `u` on B by a root of X² - y: `apart` takes its products to those of the extension and its one to
-- the extension's, and `together` takes them back.
module _ {B C : Type 0} (u : Ops B) (L : Laws u) (y : B) (o : Ops C) (apart : C → Tuple 2 B) (together : Tuple 2 B → C)
    (apart-together : (t : Tuple 2 B) → apart (together t) ≡ t) (together-apart : (c : C) → together (apart c) ≡ c)
    (apart-mul : (a b : C) → apart (o.mul a b) ≡ binomial 2 u y (apart a) (apart b))
    (apart-one : apart o.one ≡ (u.one, (u.zero, tt))) where
  -- the conjugate, times n: from e0 + e1 X it is e0 n - (e1 n) X
  abbrev conjugate : C → B → C
  conjugate a n = together (u.mul (apart a).0 n, (u.neg (u.mul (apart a).1.0 n), tt))

  -- an inverse of the norm gives one of the element
  pub tower_inverse : (a : C) (n : B) → Inverts u (norm u y (apart a)) n → Inverts o a (conjugate a n)
  tower_inverse a n e =
      sym (together-apart (o.mul a (conjugate a n)))
      ∙ ap together
      (apart-mul a (conjugate a n)
      ∙ ap (binomial 2 u y (apart a)) (apart-together _ ∙ (λ i. (u.mul (apart a).0 n, (sym (R.neg-mul u L (apart a).1.0 n) i, tt))))
      ∙ inverse_is_by_norm u L y (apart a) n e ∙ sym apart-one)
      ∙ together-apart o.one

  -- an inverse of the element gives one of the norm
  pub tower_norm : (a b : C) → Inverts o a b → Inverts u (norm u y (apart a)) (norm u y (apart b))
  tower_norm a b e = norm_inverse u L y (apart a) (apart b) (sym (apart-mul a b) ∙ ap apart e ∙ apart-one)

-- the coefficients of even and odd powers, in their order again
abbrev pub join : {A : Type 0} → Tuple 2 (Tuple 2 A) → Tuple 4 A
join t = (t.0.0, (t.1.0.0, (t.0.1.0, (t.1.0.1.0, tt))))

-- the quartic extension is the quadratic extension, by a root of X² - Y, of the quadratic extension by a root Y of Y² - w
module _ {A : Type 0} (o : Ops A) (L : Laws o) (w : A) where
  -- the ring below, and its root Y
  abbrev quadratic : Ops (Tuple 2 A)
  quadratic = extend 1 o (binomial 2 o w)

  abbrev root : Tuple 2 A
  root = (o.zero, (o.one, tt))

  -- products go over into products of the extension of the ring below
  pub split_mul : (a b : Tuple 4 A) → split (binomial 4 o w a b) ≡ binomial 2 quadratic root (split a) (split b)
  unfolding same
  split_mul a b =
      let env : ℕ → A = among o (entries 4 a ++ entries 4 b ++ w ∷ []) in
      let p : Tuple 2 (Tuple 2 Expr) = split (binomial 4 exprs (var 8) (vars 4 0) (vars 4 4)) in
      let q : Tuple 2 (Tuple 2 Expr) = binomial 2 (extend 1 exprs (binomial 2 exprs (var 8))) (𝟎, (𝟏, tt)) (split (vars 4 0)) (split (vars 4 4)) in
      λ i. (solves o L env 2 p.0 q.0 tt i, (solves o L env 2 p.1.0 q.1.0 tt i, tt))

  -- an inverse of the norm gives one of the element: the conjugate times it
  pub quartic_inverse : (a : Tuple 4 A) (n : Tuple 2 A) → Inverts quadratic (quartic_norm_of o w a) n
      → Inverts (extend 3 o (binomial 4 o w)) a (join (quadratic.mul (split a).0 n, (quadratic.neg (quadratic.mul (split a).1.0 n), tt)))
  quartic_inverse =
      tower_inverse quadratic (binomial_laws 1 quadratic_passes o L w) root (extend 3 o (binomial 4 o w)) split join (λ t. refl) (λ c. refl) split_mul refl

  -- an inverse of the element gives one of the norm
  pub quartic_norm_inverse : (a b : Tuple 4 A) → Inverts (extend 3 o (binomial 4 o w)) a b → Inverts quadratic (quartic_norm_of o w a) (quartic_norm_of o w b)
  quartic_norm_inverse =
      tower_norm quadratic (binomial_laws 1 quadratic_passes o L w) root (extend 3 o (binomial 4 o w)) split join (λ t. refl) (λ c. refl) split_mul refl
