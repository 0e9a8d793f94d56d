-- Numbers as four bytes each, and back.
use Rattle.std.proofs.Common.{◌≡◌, ℕ, ◌^◌, ◌<◌, suc, ◌*◌, List, [], ◌∷◌, ◌++◌, length, take, drop, refl, ap, ◌∙◌, subst, arith}
use Prim.Native.Nat as N
use Rattle.std.proofs.lemmas.Nat.{from_le_bytes-to_le_bytes_4}
use Rattle.std.specs.Int.{w32, to_le_bytes, from_le_bytes}
use Rattle.algebra.specs.Polynomial.{Each}
use Rattle.extensions.specs.Tuples.{Tuple}
use Rattle.extensions.specs.Extensions.{joined}
use Rattle.encoding.specs.Bytes.{bytes_of, numbers_of}

bytes_append : (l m : List ℕ) → bytes_of (l ++ m) ≡ bytes_of l ++ bytes_of m
bytes_append [] m = refl
bytes_append (n ∷ l) m = ap (λ r. to_le_bytes w32 n ++ r) (bytes_append l m)

-- the bytes of joined lists are those of each, joined
pub bytes_joined : {A : Type 0} (list : A → List ℕ) (n : ℕ) (t : Tuple n A) → bytes_of (joined n list t) ≡ joined n (λ x. bytes_of (list x)) t
bytes_joined list N.zero t = refl
bytes_joined list (suc n) t = bytes_append (list t.0) (joined n list t.1) ∙ ap (λ r. bytes_of (list t.0) ++ r) (bytes_joined list n t.1)

pub bytes_length : (l : List ℕ) → length (bytes_of l) ≡ 4 * length l
bytes_length [] = refl
bytes_length (n ∷ l) =
    let more : length (bytes_of (n ∷ l)) ≡ suc (suc (suc (suc (length (bytes_of l))))) = refl in
    omega (arith, more, bytes_length l)

-- four for each of m
abbrev fours : ℕ → ℕ
fours N.zero = 0
fours (suc m) = suc (suc (suc (suc (fours m))))

fours_is : (m : ℕ) → fours m ≡ 4 * m
fours_is N.zero = refl
fours_is (suc m) = omega (arith, fours_is m)

drop_fours : (m : ℕ) (l : List ℕ) → numbers_of (drop (fours m) l) ≡ drop m (numbers_of l)
drop_fours N.zero l = refl
drop_fours (suc m) [] = refl
drop_fours (suc m) (a ∷ []) = refl
drop_fours (suc m) (a ∷ b ∷ []) = refl
drop_fours (suc m) (a ∷ b ∷ c ∷ []) = refl
drop_fours (suc m) (a ∷ b ∷ c ∷ d ∷ l) = drop_fours m l

take_fours : (m : ℕ) (l : List ℕ) → numbers_of (take (fours m) l) ≡ take m (numbers_of l)
take_fours N.zero l = refl
take_fours (suc m) [] = refl
take_fours (suc m) (a ∷ []) = refl
take_fours (suc m) (a ∷ b ∷ []) = refl
take_fours (suc m) (a ∷ b ∷ c ∷ []) = refl
take_fours (suc m) (a ∷ b ∷ c ∷ d ∷ l) = ap (λ r. from_le_bytes w32 (a ∷ b ∷ c ∷ d ∷ []) ∷ r) (take_fours m l)

-- whole numbers are left out in front, and at the end
pub numbers_drop : (m : ℕ) (l : List ℕ) → numbers_of (drop (4 * m) l) ≡ drop m (numbers_of l)
numbers_drop m l = subst (λ i. numbers_of (drop i l) ≡ drop m (numbers_of l)) (fours_is m) (drop_fours m l)

pub numbers_take : (m : ℕ) (l : List ℕ) → numbers_of (take (4 * m) l) ≡ take m (numbers_of l)
numbers_take m l = subst (λ i. numbers_of (take i l) ≡ take m (numbers_of l)) (fours_is m) (take_fours m l)

-- numbers below 2^32 are read back from their bytes
pub read_back : (l : List ℕ) → Each (λ n. n < 2 ^ 32) l → numbers_of (bytes_of l) ≡ l
read_back [] h = refl
read_back (n ∷ l) h = λ i. from_le_bytes-to_le_bytes_4 n h.0 i ∷ read_back l h.1 i
