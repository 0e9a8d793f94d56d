-- Which line says what, and why a line says nothing of a morning. Text is a list of bytes.
use Rattle.std.specs.Prelude.{◌≡◌, ℕ, ◌<◌, ◌⊎◌, List, [], ◌∷◌, ◌++◌, length, codes, ◌≢◌, slice_index, slice_index_or, vec_items}
use Rattle.calculator.specs.Commands.{NoListing, NotNumber, word}
use Rattle.calculator.specs.Text.{Number, Listing, items, words}
use Rattle.reading.specs.declared.calls.Call.{Call}
use Rattle.reading.specs.declared.calls.Call.TheVariants.{Append, Drop, Replace, Look}
use Rattle.mornings.specs.Names.{system_text, handset_text}
use Rattle.mornings.specs.declared.items.Fault.{Fault}
use Rattle.mornings.specs.declared.items.Fault.TheVariants.{Bad, NoMemory}
use Rattle.mornings.specs.declared.items.HandsetNumber.{HandsetNumber}
use Rattle.mornings.specs.declared.items.Item.{Item}
use Rattle.mornings.specs.declared.items.Item.TheVariants.{System, Point, Dock, Handset}
use Rattle.mornings.specs.declared.items.PointSource.TheVariants.{Random, Given}
use Rattle.mornings.specs.declared.items.Reason.{Reason}
use Rattle.mornings.specs.declared.items.Reason.TheVariants.{NoItem, StrangeSystem, NoPoint, StrangeHandset, NoCall, NoNumber, Twice, OutOfOrder, Refused}
use Rattle.mornings.specs.declared.items.SystemNumber.{SystemNumber}

-- the text begins with the word, which has no space, and goes on with the rest, which is empty or begins with one
pub record Headed (text first rest : List ℕ) : Type 0 where
  pub joined : text ≡ first ++ rest
  pub plain : (k : ℕ) → k < length first → slice_index first k ≢ 32
  pub spaced : (rest ≡ []) ⊎ ((t : List ℕ) × (rest ≡ 32 ∷ t))

-- Words begin with an empty one, as a text that begins with a space has them; the next one is the name, and there are so many in all.
pub record Shaped (ws : List (List ℕ)) (name : List ℕ) (count : ℕ) : Type 0 where
  pub space : word ws 0 ≡ []
  pub named : word ws 1 ≡ name
  pub counted : length ws ≡ count

-- the words, of which the first is empty, write the call
abbrev pub IsCall : Call → List (List ℕ) → Type 0
IsCall (Append e) ws = Shaped ws (codes "append") 3 × Number (word ws 2) e
IsCall Drop ws = Shaped ws (codes "drop") 2
IsCall (Replace i e) ws = Shaped ws (codes "replace") 4 × Number (word ws 2) i × Number (word ws 3) e
IsCall Look ws = Shaped ws (codes "look") 2

-- the words write no call: they have none of the four shapes, or else one of their numbers is none
abbrev pub NotCall : List (List ℕ) → Reason → Type 0
NotCall ws NoCall =
    (Shaped ws (codes "append") 3 → ⊥) × (Shaped ws (codes "drop") 2 → ⊥) × (Shaped ws (codes "replace") 4 → ⊥) × (Shaped ws (codes "look") 2 → ⊥)
NotCall ws NoNumber =
    (Shaped ws (codes "append") 3 × NotNumber (word ws 2))
    ⊎ (Shaped ws (codes "replace") 4 × (NotNumber (word ws 2) ⊎ NotNumber (word ws 3)))
NotCall ws NoItem = ⊥
NotCall ws StrangeSystem = ⊥
NotCall ws NoPoint = ⊥
NotCall ws StrangeHandset = ⊥
NotCall ws Twice = ⊥
NotCall ws OutOfOrder = ⊥
NotCall ws (Refused q) = ⊥

-- the words of the text at a place
abbrev pub words_at : List (List ℕ) → ℕ → List (List ℕ)
words_at texts k = words (slice_index_or texts k [])

-- the texts are the calls, one by one
pub record Calls (texts : List (List ℕ)) (cs : List Call) : Type 0 where
  pub len : length cs ≡ length texts
  pub each : (k : ℕ) → k < length texts → IsCall (slice_index_or cs k Look) (words_at texts k)

-- the first text that is no call is none for this reason
pub record FirstBad (texts : List (List ℕ)) (why : Reason) : Type 0 where
  pub place : ℕ
  pub inside : place < length texts
  pub before : (k : ℕ) → k < place → (c : Call) × IsCall c (words_at texts k)
  pub bad : NotCall (words_at texts place) why

-- after the first word of a line: a space and the text
abbrev pub After : List ℕ → List ℕ → Type 0
After rest text = rest ≡ 32 ∷ text

-- no space follows
abbrev pub Unfollowed : List ℕ → Type 0
Unfollowed rest = (text : List ℕ) → After rest text → ⊥

-- a word follows that is the number of no handset
abbrev pub Misnumbered : List ℕ → Type 0
Misnumbered rest =
    (text : List ℕ) × (name : List ℕ) × (calls : List ℕ) × After rest text × Headed text name calls × ((n : HandsetNumber) → name ≢ handset_text n)

-- a text follows that is neither `random` nor a list of numbers
abbrev pub Pointless : List ℕ → Type 0
Pointless rest = (text : List ℕ) × After rest text × (text ≢ codes "random") × NoListing text

-- after the first word stand the number of a handset and its calls
abbrev pub Numbered : List ℕ → HandsetNumber → List ℕ → Type 0
Numbered rest n calls = (text : List ℕ) × After rest text × Headed text (handset_text n) calls

-- the item is written by the first word of its line and the rest; calls stand between commas, each after a space
abbrev pub Says : Item → List ℕ → List ℕ → Type 0
Says (System n) first rest = (first ≡ codes "system") × After rest (system_text n)
Says (Point Random) first rest = (first ≡ codes "point") × After rest (codes "random")
Says (Point (Given v)) first rest = (first ≡ codes "point") × ((t : List ℕ) × After rest t × Listing t (vec_items v))
Says (Dock cs) first rest = (first ≡ codes "dock") × Calls (items rest) (vec_items cs)
Says (Handset n cs) first rest = (first ≡ codes "handset") × ((t : List ℕ) × Numbered rest n t × Calls (items t) (vec_items cs))

-- the line writes the item
abbrev pub Writes : Item → List ℕ → Type 0
Writes i line = (first : List ℕ) × (rest : List ℕ) × Headed line first rest × Says i first rest

-- the calls of a dock or of a handset are bad for this reason
abbrev pub BadCalls : List ℕ → List ℕ → Reason → Type 0
BadCalls first rest why =
    ((first ≡ codes "dock") × FirstBad (items rest) why)
    ⊎ ((first ≡ codes "handset") × ((n : HandsetNumber) × (t : List ℕ) × Numbered rest n t × FirstBad (items t) why))

-- what a reason says of the first word of a line and the rest
abbrev pub Fails : List ℕ → List ℕ → Reason → Type 0
Fails first rest NoItem = (first ≢ codes "system") × (first ≢ codes "point") × (first ≢ codes "dock") × (first ≢ codes "handset")
Fails first rest StrangeSystem = (first ≡ codes "system") × ((n : SystemNumber) → After rest (system_text n) → ⊥)
Fails first rest NoPoint = (first ≡ codes "point") × (Unfollowed rest ⊎ Pointless rest)
Fails first rest StrangeHandset = (first ≡ codes "handset") × (Unfollowed rest ⊎ Misnumbered rest)
Fails first rest NoCall = BadCalls first rest NoCall
Fails first rest NoNumber = BadCalls first rest NoNumber
Fails first rest Twice = ⊥
Fails first rest OutOfOrder = ⊥
Fails first rest (Refused q) = ⊥

-- the line is bad for this reason
abbrev pub Because : List ℕ → Reason → Type 0
Because line why = (first : List ℕ) × (rest : List ℕ) × Headed line first rest × Fails first rest why

-- no item whatever is written so
abbrev pub Nothing : List ℕ → Type 0
Nothing line = (i : Item) → Writes i line → ⊥

-- where memory did not fail, the reason has the property
abbrev pub Hindered : (Reason → Type 0) → Fault → Type 0
Hindered P (Bad why) = P why
Hindered P (NoMemory e) = Unit {0}
