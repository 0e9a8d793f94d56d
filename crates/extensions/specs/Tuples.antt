-- Tuples of a fixed number of elements of one type: the coefficients of an element of an extension, lowest power first.
use Rattle.std.specs.Prelude.{ℕ, zero, suc, List, [], ◌∷◌}

-- n elements of A
abbrev pub Tuple : ℕ → Type 0 → Type 0
Tuple zero A = Unit {0}
Tuple (suc n) A = A × Tuple n A

-- the elements in their order
abbrev pub entries : {A : Type 0} → (n : ℕ) → Tuple n A → List A
entries zero t = []
entries (suc n) t = t.0 ∷ entries n t.1

-- the tuple that has f i at place i
abbrev pub tabulate : {A : Type 0} → (n : ℕ) → (ℕ → A) → Tuple n A
tabulate zero f = tt
tabulate (suc n) f = (f 0, tabulate n (λ i. f (suc i)))

-- f at each place; f of both elements at each place
abbrev pub each : {A B : Type 0} → (n : ℕ) → (A → B) → Tuple n A → Tuple n B
each zero f t = tt
each (suc n) f t = (f t.0, each n f t.1)

abbrev pub both : {A B C : Type 0} → (n : ℕ) → (A → B → C) → Tuple n A → Tuple n B → Tuple n C
both zero f s t = tt
both (suc n) f s t = (f s.0 t.0, both n f s.1 t.1)

-- the same element at each place
abbrev pub fill : {A : Type 0} → (n : ℕ) → A → Tuple n A
fill zero x = tt
fill (suc n) x = (x, fill n x)
