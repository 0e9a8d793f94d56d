-- The products are residue classes: the quotient has the coefficients from the degree on.
use Rattle.std.proofs.Common.{ℕ, ◌+◌, List, [], ◌∷◌, ◌++◌, get_or}
use Rattle.algebra.specs.Ring.{Ops, Laws, sub}
use Rattle.algebra.specs.Expr.{var, exprs, same, among}
use Rattle.extensions.specs.Tuples.{Tuple, entries, tabulate}
use Rattle.extensions.specs.Schoolbook.{coefficient, binomial, trinomial}
use Rattle.extensions.specs.Classes.{binomial_modulus, trinomial_modulus, ResidueClass}
use Rattle.extensions.proofs.Tuples.{vars, solves}

-- the coefficients of the product from the degree n = m + 1 on
abbrev high : {A : Type 0} → (n m : ℕ) → Ops A → Tuple n A → Tuple n A → List A
high n m o a b = entries m (tabulate m (λ k. coefficient o (entries n a) (entries n b) (k + n)))

-- what stands below the degree, and the multiple of the modulus
abbrev rest : {A : Type 0} → (n m : ℕ) → Ops A → List A → List A → Tuple n A → Tuple (n + m) A
rest n m o modulus quotient r = tabulate (n + m) (λ k. o.add (get_or (entries n r) k o.zero) (coefficient o modulus quotient k))

module _ {A : Type 0} (o : Ops A) (L : Laws o) where
  pub quadratic_class : (w : A) (a b : Tuple 2 A) → ResidueClass 2 o (binomial_modulus 1 o w) a b (binomial 2 o w a b)
  unfolding same
  quadratic_class w a b = record {
    quotient = high 2 1 o a b;
    equal = solves o L (among o (w ∷ (entries 2 a ++ entries 2 b))) 3 (tabulate 3 (coefficient exprs (entries 2 (vars 2 1)) (entries 2 (vars 2 3))))
        (rest 2 1 exprs (binomial_modulus 1 exprs (var 0)) (high 2 1 exprs (vars 2 1) (vars 2 3)) (binomial 2 exprs (var 0) (vars 2 1) (vars 2 3))) tt;
  }

  pub cubic_class : (w : A) (a b : Tuple 3 A) → ResidueClass 3 o (binomial_modulus 2 o w) a b (binomial 3 o w a b)
  unfolding same
  cubic_class w a b = record {
    quotient = high 3 2 o a b;
    equal = solves o L (among o (w ∷ (entries 3 a ++ entries 3 b))) 5 (tabulate 5 (coefficient exprs (entries 3 (vars 3 1)) (entries 3 (vars 3 4))))
        (rest 3 2 exprs (binomial_modulus 2 exprs (var 0)) (high 3 2 exprs (vars 3 1) (vars 3 4)) (binomial 3 exprs (var 0) (vars 3 1) (vars 3 4))) tt;
  }

  pub quartic_class : (w : A) (a b : Tuple 4 A) → ResidueClass 4 o (binomial_modulus 3 o w) a b (binomial 4 o w a b)
  unfolding same
  quartic_class w a b = record {
    quotient = high 4 3 o a b;
    equal = solves o L (among o (w ∷ (entries 4 a ++ entries 4 b))) 7 (tabulate 7 (coefficient exprs (entries 4 (vars 4 1)) (entries 4 (vars 4 5))))
        (rest 4 3 exprs (binomial_modulus 3 exprs (var 0)) (high 4 3 exprs (vars 4 1) (vars 4 5)) (binomial 4 exprs (var 0) (vars 4 1) (vars 4 5))) tt;
  }

  pub quintic_class : (w : A) (a b : Tuple 5 A) → ResidueClass 5 o (binomial_modulus 4 o w) a b (binomial 5 o w a b)
  unfolding same
  quintic_class w a b = record {
    quotient = high 5 4 o a b;
    equal = solves o L (among o (w ∷ (entries 5 a ++ entries 5 b))) 9 (tabulate 9 (coefficient exprs (entries 5 (vars 5 1)) (entries 5 (vars 5 6))))
        (rest 5 4 exprs (binomial_modulus 4 exprs (var 0)) (high 5 4 exprs (vars 5 1) (vars 5 6)) (binomial 5 exprs (var 0) (vars 5 1) (vars 5 6))) tt;
  }

  pub octic_class : (w : A) (a b : Tuple 8 A) → ResidueClass 8 o (binomial_modulus 7 o w) a b (binomial 8 o w a b)
  unfolding same
  octic_class w a b = record {
    quotient = high 8 7 o a b;
    equal = solves o L (among o (w ∷ (entries 8 a ++ entries 8 b))) 15 (tabulate 15 (coefficient exprs (entries 8 (vars 8 1)) (entries 8 (vars 8 9))))
        (rest 8 7 exprs (binomial_modulus 7 exprs (var 0)) (high 8 7 exprs (vars 8 1) (vars 8 9)) (binomial 8 exprs (var 0) (vars 8 1) (vars 8 9))) tt;
  }

  -- X^5 (c5 + c6 X + c7 X² + c8 X³) with X^8 reduced once more leaves c8 less at power 0 of the quotient
  abbrev high_trinomial : {E : Type 0} → Ops E → Tuple 5 E → Tuple 5 E → List E
  high_trinomial p a b =
      let c = coefficient p (entries 5 a) (entries 5 b) in
      sub p (c 5) (c 8) ∷ c 6 ∷ c 7 ∷ c 8 ∷ []

  pub trinomial_class : (a b : Tuple 5 A) → ResidueClass 5 o (trinomial_modulus o) a b (trinomial o a b)
  unfolding same
  trinomial_class a b = record {
    quotient = high_trinomial o a b;
    equal = solves o L (among o (entries 5 a ++ entries 5 b)) 9 (tabulate 9 (coefficient exprs (entries 5 (vars 5 0)) (entries 5 (vars 5 5))))
        (rest 5 4 exprs (trinomial_modulus exprs) (high_trinomial exprs (vars 5 0) (vars 5 5)) (trinomial exprs (vars 5 0) (vars 5 5))) tt;
  }
