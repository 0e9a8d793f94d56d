-- The entries that a ring of slots holds.
use Rattle.std.specs.Prelude.{ℕ, zero, suc, ◌+◌, ◌%◌, List, [], ◌∷◌, slice_index}
use Rattle.reading.specs.Sheet.{most}

-- the n numbers of the slots t from the slot i on, going round at their end
unfoldable pub window : List ℕ → ℕ → ℕ → List ℕ
window t i zero = []
window t i (suc n) = slice_index t (i % most) ∷ window t (i + 1) n
