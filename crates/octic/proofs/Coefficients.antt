-- The coefficients of a product by two sums each: the products whose powers add up to k, and w times those whose powers add up to k + 8.
use Rattle.std.proofs.Common.{◌≡◌, ℕ, suc, [], ◌∷◌, ◌++◌, reverse, take, drop}
use Rattle.algebra.specs.Ring.{Ops, Laws, dot}
use Rattle.algebra.specs.Expr.{var, exprs, same, among}
use Rattle.extensions.specs.Tuples.{Tuple, entries, tabulate}
use Rattle.extensions.specs.Schoolbook.{binomial}
use Rattle.extensions.proofs.Tuples.{vars, solves}

abbrev pub by_two_sums : {A : Type 0} → Ops A → A → Tuple 8 A → Tuple 8 A → ℕ → A
by_two_sums o w a b k =
    let above = dot o (drop (suc k) (entries 8 a)) (reverse (drop (suc k) (entries 8 b))) in
    dot o (take (suc k) (entries 8 a) ++ above ∷ []) (reverse (take (suc k) (entries 8 b)) ++ w ∷ [])

pub coefficients_by_two_sums : {A : Type 0} (o : Ops A) (L : Laws o) (w : A) (a b : Tuple 8 A) → tabulate 8 (by_two_sums o w a b) ≡ binomial 8 o w a b
unfolding same
coefficients_by_two_sums o L w a b =
    solves o L (among o (entries 8 a ++ entries 8 b ++ w ∷ [])) 8
    (tabulate 8 (by_two_sums exprs (var 16) (vars 8 0) (vars 8 8))) (binomial 8 exprs (var 16) (vars 8 0) (vars 8 8)) tt
