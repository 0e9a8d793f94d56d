-- Sheets with equal sums at enough points are equal.
use Rattle.std.proofs.Common.{◌≡◌, ℕ, ◌≤◌, List, [], ◌∷◌, map, length, sym, refl, ap, ◌∙◌, subst, ap₂, arith}
use Rattle.std.proofs.lemmas.List.{length-map}
use Rattle.algebra.specs.Ring.{multiple}
use Rattle.algebra.specs.Polynomial.{Each, Apart}
use Rattle.algebra.proofs.Division as D
use Rattle.numbers.specs.Systems.{Sys, Lawful}
use Rattle.reading.specs.Sheet.{sum_of, Below}
use Rattle.sheets.specs.Comparisons.{SameFigures}
use Rattle.sheets.specs.Agreement.{Visit, SameSum, Agreement}
use Rattle.sheets.proofs.Sequences.{below_after}

module _ (s : Sys) (W : Lawful s) where
  -- entries below the limit are told by their elements
  entries_same : (L M : List ℕ) → Below s.limit L → Below s.limit M → map (multiple s.ops) L ≡ map (multiple s.ops) M → L ≡ M
  entries_same [] [] h k e = refl
  entries_same [] (d ∷ M) h k e = absurd (let z = ap length e in omega arith)
  entries_same (c ∷ L) [] h k e = absurd (let z = ap length e in omega arith)
  entries_same (c ∷ L) (d ∷ M) h k e =
      let first : multiple s.ops c ≡ multiple s.ops d = cc in
      let rest : map (multiple s.ops) L ≡ map (multiple s.ops) M = cc in
      ap₂ (λ (a : ℕ) (l : List ℕ). a ∷ l) (W.entries_differ c d h.0 k.0 first) (entries_same L M h.1 k.1 rest)

  pub sheets_same : (L M : List ℕ) (points : List s.Elem) → Below s.limit L → Below s.limit M → length L ≡ length M → length L ≤ length points
      → Apart s.ops points → Each (λ x. sum_of s x L ≡ sum_of s x M) points → L ≡ M
  sheets_same L M points h k len few apart sums =
      let left : length (map (multiple s.ops) L) ≡ length L = length-map L (multiple s.ops) in
      let right : length (map (multiple s.ops) M) ≡ length M = length-map M (multiple s.ops) in
      entries_same L M h k (D.agreement s.ops W.ring (map (multiple s.ops) L) (map (multiple s.ops) M) points (omega arith) (omega arith) apart sums)

  -- the sums at the points of the visits
  sums_at : (L M : List ℕ) (visits : List (Visit s)) → Each (SameSum s L M) visits → Each (λ x. sum_of s x L ≡ sum_of s x M) (map (λ v. v.point) visits)
  sums_at L M [] each = tt
  sums_at L M (v ∷ visits) each =
      (ap (sum_of s v.point) (sym each.0.left) ∙ each.0.sums ∙ ap (sum_of s v.point) each.0.right, sums_at L M visits each.1)

  pub agreement : Agreement s
  agreement [] [] [] len few apart each = refl
  agreement [] (e ∷ M) [] len few apart each = absurd (omega arith)
  agreement (e ∷ L) M [] len few apart each = absurd (omega arith)
  agreement L M (v ∷ visits) len few apart each =
      let points = map (λ v. v.point) (v ∷ visits) in
      let sized : length points ≡ length (v ∷ visits) = length-map (v ∷ visits) (λ v. v.point) in
      sheets_same L M points
      (subst (Below s.limit) each.0.left (below_after s [] v.left tt))
      (subst (Below s.limit) each.0.right (below_after s [] v.right tt))
      len (omega arith) apart (sums_at L M (v ∷ visits) each)

-- equal sheets have equal figures
pub same_sheet : (s : Sys) (L M : List ℕ) (points : List s.Elem) → L ≡ M → SameFigures s points L M
same_sheet s L M points e = record { counts = ap length e; sums = sums_of points }
  where
    sums_of : (points : List s.Elem) → Each (λ x. sum_of s x L ≡ sum_of s x M) points
    sums_of [] = tt
    sums_of (x ∷ points) = (ap (sum_of s x) e, sums_of points)
