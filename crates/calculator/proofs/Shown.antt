-- Lists as they are written.
use Rattle.std.proofs.Common.{◌≡◌, ℕ, List, [], ◌∷◌, ◌++◌, map, decimal, sym, ap, ◌∙◌, append_assoc}
use mathlib.Core.List.{append-nil}
use Rattle.std.specs.List.{join_with_byte, flat_map}
use Rattle.calculator.specs.Text.{listing}

-- after the first text each other one follows the separator
joined : (c x : ℕ) (ns : List ℕ) → join_with_byte c (map decimal (x ∷ ns)) ≡ decimal x ++ flat_map (λ n. c ∷ decimal n) ns
joined c x [] = sym (append-nil (decimal x))
joined c x (n ∷ ns) = ap (λ t. decimal x ++ (c ∷ t)) (joined c n ns)

-- a list that is not empty, written piece by piece
pub listing_more : (x : ℕ) (ns : List ℕ) → listing (x ∷ ns) ≡ 91 ∷ (decimal x ++ (flat_map (λ n. 44 ∷ decimal n) ns ++ (93 ∷ [])))
listing_more x ns = ap (λ t. 91 ∷ (t ++ (93 ∷ []))) (joined 44 x ns) ∙ ap (λ t. 91 ∷ t) (append_assoc (decimal x) (flat_map (λ n. 44 ∷ decimal n) ns) (93 ∷ []))
