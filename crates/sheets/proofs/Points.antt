-- What holds of each element of a list, element after element.
use Rattle.std.proofs.Common.{◌≡◌, ℕ, suc, ◌+◌, ◌<◌, List, [], ◌∷◌, ◌++◌, map, length, get_or, take, sym, ap, ◌∙◌, subst, arith}
use Prim.Native.Nat as N
use Rattle.algebra.specs.Polynomial.{Each}
use Rattle.std.proofs.lemmas.List.{length-map, get_or-map, take_more}

each_push : {A : Type 0} (P : A → Type 0) (xs : List A) (x : A) → Each P xs → P x → Each P (xs ++ (x ∷ []))
each_push P [] x each p = (p, tt)
each_push P (y ∷ xs) x each p = (each.0, each_push P xs x each.1 p)

each_unpush : {A : Type 0} (P : A → Type 0) (xs : List A) (x : A) → Each P (xs ++ (x ∷ [])) → Each P xs × P x
each_unpush P [] x each = (tt, each.0)
each_unpush P (y ∷ xs) x each = let rest = each_unpush P xs x each.1 in ((each.0, rest.0), rest.1)

-- one element more
pub each_more : {A : Type 0} (P : A → Type 0) (xs : List A) (i : ℕ) (d : A) → i < length xs → Each P (take i xs) → P (get_or xs i d) → Each P (take (i + 1) xs)
each_more P xs i d h each p = subst (Each P) (sym (take_more xs i d h)) (each_push P (take i xs) (get_or xs i d) each p)

each_at : {A : Type 0} (P : A → Type 0) (xs : List A) (i : ℕ) (d : A) → i < length xs → Each P xs → P (get_or xs i d)
each_at P [] i d h each = absurd (omega arith)
each_at P (x ∷ xs) N.zero d h each = each.0
each_at P (x ∷ xs) (suc i) d h each = each_at P xs i d (omega arith) each.1

-- a place of a list, by what its element stands for
place_map : {A B : Type 0} (f : A → B) (xs : List A) (i : ℕ) (x : A) → i < length xs → x ≡ get_or xs i x → take (i + 1) (map f xs) ≡ take i (map f xs) ++ (f x ∷ [])
place_map f xs i x h read =
    let within : i < length (map f xs) = omega (arith, length-map xs f) in
    let is : f x ≡ get_or (map f xs) i (f x) = ap f read ∙ sym (get_or-map f xs i x (f x) h) in
    take_more (map f xs) i (f x) within ∙ ap (λ y. take i (map f xs) ++ (y ∷ [])) (sym is)

-- one element more, and one less
pub each_more_map : {A B : Type 0} (P : B → Type 0) (f : A → B) (xs : List A) (i : ℕ) (x : A) → i < length xs → x ≡ get_or xs i x
    → Each P (take i (map f xs)) → P (f x) → Each P (take (i + 1) (map f xs))
each_more_map P f xs i x h read each p = subst (Each P) (sym (place_map f xs i x h read)) (each_push P (take i (map f xs)) (f x) each p)

pub each_less_map : {A B : Type 0} (P : B → Type 0) (f : A → B) (xs : List A) (i : ℕ) (x : A) → i < length xs → x ≡ get_or xs i x
    → Each P (take (i + 1) (map f xs)) → Each P (take i (map f xs)) × P (f x)
each_less_map P f xs i x h read each = each_unpush P (take i (map f xs)) (f x) (subst (Each P) (place_map f xs i x h read) each)

-- what holds of each holds at a place
pub each_at_map : {A B : Type 0} (P : B → Type 0) (f : A → B) (xs : List A) (i : ℕ) (x : A) → i < length xs → x ≡ get_or xs i x → Each P (map f xs) → P (f x)
each_at_map P f xs i x h read each =
    let within : i < length (map f xs) = omega (arith, length-map xs f) in
    let is : f x ≡ get_or (map f xs) i (f x) = ap f read ∙ sym (get_or-map f xs i x (f x) h) in
    subst P (sym is) (each_at P (map f xs) i (f x) within each)
