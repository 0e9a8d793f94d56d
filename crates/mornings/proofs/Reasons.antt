-- A reason that holds of a line says that no item is written so.
use Rattle.std.proofs.Common.{◌≡◌, ℕ, suc, ◌<◌, List, [], ◌∷◌, ◌++◌, length, codes, sym, refl, ap, ◌∙◌, subst, ⊎_elim, arith}
use Rattle.std.specs.Prelude.{◌≢◌, ◌⊎◌, slice_index, vec_items}
use Rattle.calculator.specs.Commands.{NotNumber, word}
use Rattle.calculator.specs.Text.{items, Listing}
use Rattle.reading.specs.declared.calls.Call.{Call}
use Rattle.reading.specs.declared.calls.Call.TheVariants.{Append, Drop, Replace, Look}
use Rattle.mornings.specs.Lines.{After, BadCalls, Because, Calls, Fails, FirstBad, Headed, Hindered, IsCall, Nothing, NotCall, Numbered, Says, Shaped, words_at}
use Rattle.mornings.specs.Names.{handset_text}
use Rattle.mornings.specs.declared.items.Fault.{Fault}
use Rattle.mornings.specs.declared.items.Fault.TheVariants.{Bad, NoMemory}
use Rattle.mornings.specs.declared.items.HandsetNumber.{HandsetNumber}
use Rattle.mornings.specs.declared.items.Item.{Item}
use Rattle.mornings.specs.declared.items.Item.TheVariants.{System, Point, Dock, Handset}
use Rattle.mornings.specs.declared.items.PointSource.TheVariants.{Random, Given}
use Rattle.mornings.specs.declared.items.Reason.{Reason}
use Rattle.mornings.specs.declared.items.Reason.TheVariants.{NoItem, StrangeSystem, NoPoint, StrangeHandset, NoCall, NoNumber, Twice, OutOfOrder, Refused}

-- a word without spaces; what follows a word
abbrev Plain : List ℕ → Type 0
Plain a = (k : ℕ) → k < length a → slice_index a k ≢ 32

abbrev Spaced : List ℕ → Type 0
Spaced r = (r ≡ []) ⊎ ((t : List ℕ) × (r ≡ 32 ∷ t))

-- what follows a word does not begin with a letter
no_letter : (r : List ℕ) (y : ℕ) (ys : List ℕ) → Spaced r → r ≡ y ∷ ys → y ≢ 32 → ⊥
no_letter r y ys h e n =
    ⊎_elim (λ (p : r ≡ []). let q : [] ≡ y ∷ ys = sym p ∙ e in cc) (λ (p : (t : List ℕ) × (r ≡ 32 ∷ t)). let q : 32 ∷ p.0 ≡ y ∷ ys = sym p.1 ∙ e in n (cc)) h

-- a text has one first word
cut_same : (a b r s : List ℕ) → a ++ r ≡ b ++ s → Plain a → Plain b → Spaced r → Spaced s → (a ≡ b) × (r ≡ s)
cut_same [] [] r s e pa pb sr ss = (refl, e)
cut_same [] (y ∷ b) r s e pa pb sr ss = absurd (no_letter r y (b ++ s) sr e (pb 0 (omega arith)))
cut_same (x ∷ a) [] r s e pa pb sr ss = absurd (no_letter s x (a ++ r) ss (sym e) (pa 0 (omega arith)))
cut_same (x ∷ a) (y ∷ b) r s e pa pb sr ss =
    let heads : x ≡ y = cc in
    let tails : a ++ r ≡ b ++ s = cc in
    let rest = cut_same a b r s tails (λ k l. pa (suc k) (omega arith)) (λ k l. pb (suc k) (omega arith)) sr ss in
    (cc (heads, rest.0), rest.1)

headed_same : (text a b r s : List ℕ) → Headed text a r → Headed text b s → (a ≡ b) × (r ≡ s)
headed_same text a b r s h g = cut_same a b r s (sym h.joined ∙ g.joined) h.plain g.plain h.spaced g.spaced

-- words of different lengths are not one
clash : (x a b : List ℕ) → x ≡ a → x ≡ b → length a ≢ length b → ⊥
clash x a b p q n = n (ap length (sym p ∙ q))

-- what is no call is none
no_call : (c : Call) (ws : List (List ℕ)) (why : Reason) → NotCall ws why → IsCall c ws → ⊥
no_call (Append e) ws NoCall n w = n.0 w.0
no_call Drop ws NoCall n w = n.1 w
no_call (Replace i e) ws NoCall n w = n.2 w.0
no_call Look ws NoCall n w = n.3 w
no_call (Append e) ws NoNumber n w =
    ⊎_elim (λ (h : Shaped ws (codes "append") 3 × NotNumber (word ws 2)). h.1 e w.1)
    (λ (h : Shaped ws (codes "replace") 4 × (NotNumber (word ws 2) ⊎ NotNumber (word ws 3))). clash _ _ _ h.0.named w.0.named (omega arith)) n
no_call Drop ws NoNumber n w =
    ⊎_elim (λ (h : Shaped ws (codes "append") 3 × NotNumber (word ws 2)). clash _ _ _ h.0.named w.named (omega arith))
    (λ (h : Shaped ws (codes "replace") 4 × (NotNumber (word ws 2) ⊎ NotNumber (word ws 3))). clash _ _ _ h.0.named w.named (omega arith)) n
no_call (Replace i e) ws NoNumber n w =
    ⊎_elim (λ (h : Shaped ws (codes "append") 3 × NotNumber (word ws 2)). clash _ _ _ h.0.named w.0.named (omega arith))
    (λ (h : Shaped ws (codes "replace") 4 × (NotNumber (word ws 2) ⊎ NotNumber (word ws 3))).
    ⊎_elim (λ (m : NotNumber (word ws 2)). m i w.1) (λ (m : NotNumber (word ws 3)). m e w.2) h.1)
    n
no_call Look ws NoNumber n w =
    ⊎_elim (λ (h : Shaped ws (codes "append") 3 × NotNumber (word ws 2)). clash _ _ _ h.0.named w.named (omega arith))
    (λ (h : Shaped ws (codes "replace") 4 × (NotNumber (word ws 2) ⊎ NotNumber (word ws 3))). clash _ _ _ h.0.named w.named (omega arith)) n
no_call c ws NoItem n w = n
no_call c ws StrangeSystem n w = n
no_call c ws NoPoint n w = n
no_call c ws StrangeHandset n w = n
no_call c ws Twice n w = n
no_call c ws OutOfOrder n w = n
no_call c ws (Refused q) n w = n

no_calls : (ts : List (List ℕ)) (cs : List Call) (why : Reason) → FirstBad ts why → Calls ts cs → ⊥
no_calls ts cs why b h = no_call _ (words_at ts b.place) why b.bad (h.each b.place b.inside)

-- one text follows a first word
after_same : (rest s t : List ℕ) → After rest s → After rest t → s ≡ t
after_same rest s t p q = let e : 32 ∷ s ≡ 32 ∷ t = sym p ∙ q in cc

-- and the calls of a handset are one text
numbered_same : (rest s t : List ℕ) (n m : HandsetNumber) → Numbered rest n s → Numbered rest m t → s ≡ t
numbered_same rest s t n m p q =
    (headed_same p.0 (handset_text n) (handset_text m) s t p.2 (subst (λ u. Headed u (handset_text m) t) (after_same rest q.0 p.0 q.1 p.1) q.2)).1

bad_calls_dock : (first rest : List ℕ) (cs : List Call) (why : Reason) → BadCalls first rest why → first ≡ codes "dock" → Calls (items rest) cs → ⊥
bad_calls_dock first rest cs why b e h =
    ⊎_elim (λ (d : (first ≡ codes "dock") × FirstBad (items rest) why). no_calls (items rest) cs why d.1 h)
    (λ (d : (first ≡ codes "handset") × ((n : HandsetNumber) × (t : List ℕ) × Numbered rest n t × FirstBad (items t) why)). clash _ _ _ d.0 e (omega arith)) b

bad_calls_handset : (first rest t : List ℕ) (n : HandsetNumber) (cs : List Call) (why : Reason) → BadCalls first rest why → first ≡ codes "handset"
    → Numbered rest n t → Calls (items t) cs → ⊥
bad_calls_handset first rest t n cs why b e m h =
    ⊎_elim (λ (d : (first ≡ codes "dock") × FirstBad (items rest) why). clash _ _ _ d.0 e (omega arith))
    (λ (d : (first ≡ codes "handset") × ((n : HandsetNumber) × (t : List ℕ) × Numbered rest n t × FirstBad (items t) why)).
    no_calls (items t) cs why (subst (λ u. FirstBad (items u) why) (numbered_same rest d.1.1 t d.1.0 n d.1.2 m) d.1.3) h)
    b

bad_calls : (i : Item) (first rest : List ℕ) (why : Reason) → BadCalls first rest why → Says i first rest → ⊥
bad_calls (System n) first rest why b s = ⊎_elim (λ d. clash _ _ _ d.0 s.0 (omega arith)) (λ d. clash _ _ _ d.0 s.0 (omega arith)) b
bad_calls (Point Random) first rest why b s = ⊎_elim (λ d. clash _ _ _ d.0 s.0 (omega arith)) (λ d. clash _ _ _ d.0 s.0 (omega arith)) b
bad_calls (Point (Given v)) first rest why b s = ⊎_elim (λ d. clash _ _ _ d.0 s.0 (omega arith)) (λ d. clash _ _ _ d.0 s.0 (omega arith)) b
bad_calls (Dock cs) first rest why b s = bad_calls_dock first rest (vec_items cs) why b s.0 s.1
bad_calls (Handset n cs) first rest why b s = bad_calls_handset first rest s.1.0 n (vec_items cs) why b s.0 s.1.1 s.1.2

-- what a reason says of a first word and the rest, no item says
fails_says : (i : Item) (first rest : List ℕ) (why : Reason) → Fails first rest why → Says i first rest → ⊥
fails_says (System n) first rest NoItem f s = f.0 s.0
fails_says (Point Random) first rest NoItem f s = f.1 s.0
fails_says (Point (Given v)) first rest NoItem f s = f.1 s.0
fails_says (Dock cs) first rest NoItem f s = f.2 s.0
fails_says (Handset n cs) first rest NoItem f s = f.3 s.0
fails_says (System n) first rest StrangeSystem f s = f.1 n s.1
fails_says (Point Random) first rest StrangeSystem f s = clash _ _ _ f.0 s.0 (omega arith)
fails_says (Point (Given v)) first rest StrangeSystem f s = clash _ _ _ f.0 s.0 (omega arith)
fails_says (Dock cs) first rest StrangeSystem f s = clash _ _ _ f.0 s.0 (omega arith)
fails_says (Handset n cs) first rest StrangeSystem f s = clash _ _ _ f.0 s.0 (omega arith)
fails_says (System n) first rest NoPoint f s = clash _ _ _ f.0 s.0 (omega arith)
fails_says (Point Random) first rest NoPoint f s = ⊎_elim (λ u. u (codes "random") s.1) (λ p. p.2 (after_same rest p.0 (codes "random") p.1 s.1)) f.1
fails_says (Point (Given v)) first rest NoPoint f s =
    ⊎_elim (λ u. u s.1.0 s.1.1) (λ p. subst (λ t. (ns : List ℕ) → Listing t ns → ⊥) (after_same rest p.0 s.1.0 p.1 s.1.1) p.3 (vec_items v) s.1.2) f.1
fails_says (Dock cs) first rest NoPoint f s = clash _ _ _ f.0 s.0 (omega arith)
fails_says (Handset n cs) first rest NoPoint f s = clash _ _ _ f.0 s.0 (omega arith)
fails_says (System n) first rest StrangeHandset f s = clash _ _ _ f.0 s.0 (omega arith)
fails_says (Point Random) first rest StrangeHandset f s = clash _ _ _ f.0 s.0 (omega arith)
fails_says (Point (Given v)) first rest StrangeHandset f s = clash _ _ _ f.0 s.0 (omega arith)
fails_says (Dock cs) first rest StrangeHandset f s = clash _ _ _ f.0 s.0 (omega arith)
fails_says (Handset n cs) first rest StrangeHandset f s =
    let m : Numbered rest n s.1.0 = s.1.1 in
    ⊎_elim (λ u. u m.0 m.1)
    (λ p. p.5 n ((headed_same p.0 p.1 (handset_text n) p.2 s.1.0 p.4 (subst (λ u. Headed u (handset_text n) s.1.0) (after_same rest m.0 p.0 m.1 p.3) m.2)).0)) f.1
fails_says i first rest NoCall f s = bad_calls i first rest NoCall f s
fails_says i first rest NoNumber f s = bad_calls i first rest NoNumber f s
fails_says i first rest Twice f s = f
fails_says i first rest OutOfOrder f s = f
fails_says i first rest (Refused q) f s = f

because_nothing : (line : List ℕ) (why : Reason) → Because line why → Nothing line
because_nothing line why b i w =
    let same = headed_same line w.0 b.0 w.1 b.1 w.2 b.2 in
    fails_says i b.0 b.1 why b.3 (subst (λ r. Says i b.0 r) same.1 (subst (λ f. Says i f w.1) same.0 w.3))

pub hindered_nothing : (line first rest : List ℕ) (f : Fault) → Headed line first rest → Hindered (Fails first rest) f
    → Hindered (λ why. Because line why × Nothing line) f
hindered_nothing line first rest (NoMemory e) headed h = tt
hindered_nothing line first rest (Bad why) headed h = let because : Because line why = (first, rest, headed, h) in (because, because_nothing line why because)
