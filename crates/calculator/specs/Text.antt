-- How numbers, lists and words are written in a line. Text is a list of bytes.
use Rattle.std.specs.Prelude.{◌≡◌, ℕ, ◌^◌, ◌<◌, ◌≤◌, true, List, [], ◌∷◌, ◌++◌, map, length, Some, None, decimal, Option, ◌==◌, slice_index, slice_index_or}
use Rattle.std.specs.List.{join_with_byte, slice_split}
use Rattle.std.specs.Str.Parse.{digits_value}
use Rattle.std.specs.Str.{all_ascii_digits}

-- the answer shows a value with the property, or there is none with it
abbrev pub Found : {V B : Type 0} → (V → B) → (B → Type 0) → Option V → Type 0
Found {V} {B} shows P (Some v) = P (shows v)
Found {V} {B} shows P None = (b : B) → P b → ⊥

-- the parts of a text between the separators c: one more than there are separators
abbrev pub parts : ℕ → List ℕ → List (List ℕ)
parts c text = slice_split (λ b. b == c) text

-- the words of a line stand between single spaces
abbrev pub words : List ℕ → List (List ℕ)
words line = parts 32 line

-- the text is the number n, in at most twenty decimal digits, and n has at most 64 bits
pub record Number (text : List ℕ) (n : ℕ) : Type 0 where
  pub digits : all_ascii_digits text ≡ true
  pub some : 0 < length text
  pub short : length text ≤ 20
  pub value_is : digits_value 10 text ≡ n
  pub fits : n < 2 ^ 64

-- the texts are the numbers, one by one
pub record Numbers (texts : List (List ℕ)) (ns : List ℕ) : Type 0 where
  pub len : length ns ≡ length texts
  pub each : (k : ℕ) → k < length texts → Number (slice_index_or texts k []) (slice_index ns k)

-- the texts between commas; nothing at all is no text
abbrev pub items : List ℕ → List (List ℕ)
items [] = []
items (b ∷ bs) = parts 44 (b ∷ bs)

-- the text stands in square brackets
abbrev pub Bracketed : List ℕ → List ℕ → Type 0
Bracketed text inner = text ≡ 91 ∷ (inner ++ (93 ∷ []))

-- the text is the list of numbers: in square brackets, with commas between
pub record Listing (text ns : List ℕ) : Type 0 where
  pub inner : List ℕ
  pub brackets : Bracketed text inner
  pub numbers : Numbers (items inner) ns

-- a list of numbers, written out
abbrev pub listing : List ℕ → List ℕ
listing ns = 91 ∷ (join_with_byte 44 (map decimal ns) ++ (93 ∷ []))
