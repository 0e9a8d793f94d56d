-- Polynomials by their coefficients, lowest power first, and the points at which they are compared.
use Rattle.std.specs.Prelude.{◌≡◌, List, [], ◌∷◌, ℕ, suc, ◌≤◌, length}
use Rattle.algebra.specs.Ring.{Ops, sub, power, total}
use Rattle.algebra.specs.Units.{IsUnit}

-- the terms c_k × x^k, c_(k+1) × x^(k+1), .. of the coefficients from the k-th on
abbrev pub terms : {A : Type 0} → Ops A → A → ℕ → List A → List A
terms o x k [] = []
terms o x k (c ∷ cs) = o.mul c (power o x k) ∷ terms o x (suc k) cs

-- the value at x: the total of c_i × x^i over all places i, x^0 being one
abbrev pub value : {A : Type 0} → Ops A → A → List A → A
value o x cs = total o (terms o x 0 cs)

-- each element of the list has the property
abbrev pub Each : {A : Type 0} → (A → Type 0) → List A → Type 0
Each P [] = Unit {0}
Each P (x ∷ xs) = P x × Each P xs

-- any two elements of the list differ by a unit
abbrev pub Apart : {A : Type 0} → Ops A → List A → Type 0
Apart o [] = Unit {0}
Apart o (x ∷ xs) = Each (λ y. IsUnit o (sub o y x)) xs × Apart o xs

-- two polynomials have equal values at each of the points
abbrev pub Agree : {A : Type 0} → Ops A → List A → List A → List A → Type 0
Agree o points f g = Each (λ x. value o x f ≡ value o x g) points

-- Two lists of n coefficients whose polynomials have equal values at n points (or more), any two of which differ by a unit, are equal entry for entry.
abbrev pub Agreement : {A : Type 0} → Ops A → Type 0
Agreement {A} o = (f g points : List A) → length f ≡ length g → length f ≤ length points → Apart o points → Agree o points f g → f ≡ g
