-- Lists of one number.
use Rattle.std.specs.Prelude.{◌≡◌, ℕ, ◌<◌, List, [], ◌∷◌}

-- the list is one number, below the limit
abbrev pub OneBelow : ℕ → List ℕ → Type 0
OneBelow limit l = (n : ℕ) × (l ≡ n ∷ []) × (n < limit)
