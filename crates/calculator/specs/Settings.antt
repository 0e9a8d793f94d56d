-- The nine systems as extensions: the system below, the product, and the Frobenius map where there are conjugates.
use Rattle.std.specs.Prelude.{ℕ, zero, suc, true, false, List, [], ◌∷◌, Some, None, Option}
use Rattle.std.proofs.Common.{lit≤}
use Rattle.numbers.specs.Systems.{Sys}
use Rattle.bases.specs.Bits.{bits}
use Rattle.bases.specs.Residues.{Res, res}
use Rattle.extensions.specs.Tuples.{Tuple}
use Rattle.extensions.specs.Schoolbook.{binomial, trinomial}
use Rattle.extensions.specs.Conjugates.{root_frobenius_map, table_frobenius}
use Rattle.extensions.specs.Extensions.{extension}
use Rattle.extensions.specs.Layers.{Products}
use Rattle.catalog.specs.Catalog.{koala_bear, mersenne_31, baby_bear, eleven, system_4}

-- An extension of degree d + 1: an element has a coefficient from the system below at each power.
pub record Setting : Type 1 where
  pub d : ℕ
  pub below : Sys
  pub product : Tuple (suc d) below.Elem → Tuple (suc d) below.Elem → Tuple (suc d) below.Elem
  pub conjugate : Option (Tuple (suc d) below.Elem → Tuple (suc d) below.Elem)

-- the number system that it is
abbrev pub whole : Setting → Sys
whole t = extension t.d t.below t.product

-- the same by the formula of the product, where coefficients of the type S mean elements of the system below
abbrev pub ruled : {S : Type 0} (d : ℕ) (B : Sys) (mean : S → B.Elem) → Products S → Option (Tuple (suc d) B.Elem → Tuple (suc d) B.Elem) → Setting
ruled d B mean product conjugate = record { d = d; below = B; product = product (suc d) B.Elem B.ops mean; conjugate = conjugate }

-- by a root of X^(d + 1) - w, with conjugates by a root z of one
abbrev pub rooted : (d : ℕ) (B : Sys) (w z : B.Elem) → Setting
rooted d B w z = record { d = d; below = B; product = binomial (suc d) B.ops w; conjugate = Some (root_frobenius_map (suc d) B.ops z) }

-- by a root of X^5 + X² - 1, with conjugates by the rows T1 to T4
abbrev pub tabled : (B : Sys) → Tuple 4 (Tuple 5 B.Elem) → Setting
tabled B rows = record { d = 4; below = B; product = trinomial B.ops; conjugate = Some (table_frobenius B.ops rows) }

-- by a root of X^(d + 1) - w, without conjugates
abbrev pub split : (d : ℕ) (B : Sys) (w : B.Elem) → Setting
split d B w = record { d = d; below = B; product = binomial (suc d) B.ops w; conjugate = None }

-- four rows of five
abbrev pub row : {A : Type 0} → A → A → A → A → A → Tuple 5 A
row a b c d e = (a, (b, (c, (d, (e, tt)))))

abbrev pub four : {A : Type 0} → A → A → A → A → Tuple 4 A
four a b c d = (a, (b, (c, (d, tt))))

-- residues modulo 2130706433, 2147483647, 2013265921 and 11
abbrev k : ℕ → Res 2130706433
k = res 2130706433 (lit≤ tt)

abbrev m : ℕ → Res 2147483647
m = res 2147483647 (lit≤ tt)

abbrev b : ℕ → Res 2013265921
b = res 2013265921 (lit≤ tt)

abbrev e : ℕ → Res 11
e = res 11 (lit≤ tt)

-- the rows over 2130706433, and over the two elements
abbrev koala_bear_rows : Tuple 4 (Tuple 5 (Res 2130706433))
koala_bear_rows =
    four (row (k 1576402667) (k 1173144480) (k 1567662457) (k 1206866823) (k 2428146))
    (row (k 1680345488) (k 1381986) (k 615237464) (k 1380104858) (k 295431824))
    (row (k 441230756) (k 323126830) (k 704986542) (k 1445620072) (k 503505220))
    (row (k 1364444097) (k 1144738982) (k 2008416047) (k 143367062) (k 1027410849))

abbrev bit_rows : Tuple 4 (Tuple 5 bits.Elem)
bit_rows =
    four (row false false true false false)
    (row false false false false true)
    (row false true false true false)
    (row true false true true false)

-- the nine, and their list in the order of their numbers from 1 on
abbrev pub setting_1 : Setting
setting_1 = rooted 3 koala_bear (k 3) (k 2113994754)

abbrev pub setting_2 : Setting
setting_2 = rooted 7 koala_bear (k 3) (k 1748172362)

abbrev pub setting_3 : Setting
setting_3 = tabled koala_bear koala_bear_rows

abbrev pub setting_4 : Setting
setting_4 = rooted 1 mersenne_31 (m 2147483646) (m 2147483646)

abbrev pub setting_5 : Setting
setting_5 = rooted 2 system_4 (m 0, (m 5, tt)) (m 634005911, (m 0, tt))

abbrev pub setting_6 : Setting
setting_6 = rooted 4 baby_bear (b 31) (b 645581151)

abbrev pub setting_7 : Setting
setting_7 = tabled bits bit_rows

abbrev pub setting_8 : Setting
setting_8 = rooted 4 eleven (e 2) (e 4)

abbrev pub setting_9 : Setting
setting_9 = split 1 eleven (e 1)

abbrev pub nine : List Setting
nine = setting_1 ∷ setting_2 ∷ setting_3 ∷ setting_4 ∷ setting_5 ∷ setting_6 ∷ setting_7 ∷ setting_8 ∷ setting_9 ∷ []

-- P holds of the setting of this number, the first having number 1; where there is none, Q holds
abbrev pub Nth : List Setting → ℕ → (Setting → Type 0) → Type 0 → Type 0
Nth [] n P Q = Q
Nth (t ∷ ts) zero P Q = Q
Nth (t ∷ ts) (suc zero) P Q = P t
Nth (t ∷ ts) (suc (suc n)) P Q = Nth ts (suc n) P Q
