-- How systems, handsets and reasons are named in a text.
use Rattle.std.specs.Prelude.{◌≡◌, ℕ, List, ◌++◌, codes, ◌≢◌, Result, MatchResult}
use Rattle.catalog.specs.Catalog.{system_1, system_2, system_3, system_4, system_5, system_6, system_7, system_8, system_9}
use Rattle.numbers.specs.Refusals.{text_of}
use Rattle.numbers.specs.Systems.{Sys}
use Rattle.mornings.specs.declared.items.SystemNumber as S
use Rattle.mornings.specs.declared.items.SystemNumber.{SystemNumber}
use Rattle.mornings.specs.declared.items.HandsetNumber as H
use Rattle.mornings.specs.declared.items.HandsetNumber.{HandsetNumber}
use Rattle.mornings.specs.declared.items.Reason.{Reason}
use Rattle.mornings.specs.declared.items.Reason.TheVariants.{NoItem, StrangeSystem, NoPoint, StrangeHandset, NoCall, NoNumber, Twice, OutOfOrder, Refused}

-- a system is named by its digit
abbrev pub system_text : SystemNumber → List ℕ
system_text S.TheVariants.One = codes "1"
system_text S.TheVariants.Two = codes "2"
system_text S.TheVariants.Three = codes "3"
system_text S.TheVariants.Four = codes "4"
system_text S.TheVariants.Five = codes "5"
system_text S.TheVariants.Six = codes "6"
system_text S.TheVariants.Seven = codes "7"
system_text S.TheVariants.Eight = codes "8"
system_text S.TheVariants.Nine = codes "9"

-- and so is a handset
abbrev pub handset_text : HandsetNumber → List ℕ
handset_text H.TheVariants.One = codes "1"
handset_text H.TheVariants.Two = codes "2"
handset_text H.TheVariants.Three = codes "3"
handset_text H.TheVariants.Four = codes "4"
handset_text H.TheVariants.Five = codes "5"
handset_text H.TheVariants.Six = codes "6"

-- the number system of a number
abbrev pub system_of : SystemNumber → Sys
system_of S.TheVariants.One = system_1
system_of S.TheVariants.Two = system_2
system_of S.TheVariants.Three = system_3
system_of S.TheVariants.Four = system_4
system_of S.TheVariants.Five = system_5
system_of S.TheVariants.Six = system_6
system_of S.TheVariants.Seven = system_7
system_of S.TheVariants.Eight = system_8
system_of S.TheVariants.Nine = system_9

-- the result is the system of this name, or there is none
abbrev pub NamesSystem : List ℕ → Result SystemNumber Reason → Type 0
NamesSystem text r = MatchResult r (λ n. text ≡ system_text n) (λ why. (why ≡ StrangeSystem) × ((n : SystemNumber) → text ≢ system_text n))

-- the result is the handset of this name, or there is none
abbrev pub NamesHandset : List ℕ → Result HandsetNumber Reason → Type 0
NamesHandset text r = MatchResult r (λ n. text ≡ handset_text n) (λ why. (why ≡ StrangeHandset) × ((n : HandsetNumber) → text ≢ handset_text n))

-- what is printed for a reason
abbrev pub reason_text : Reason → List ℕ
reason_text NoItem = codes "no such item"
reason_text StrangeSystem = codes "strange system: not a number from 1 to 9"
reason_text NoPoint = codes "the point is neither random nor a list of numbers in brackets"
reason_text StrangeHandset = codes "the handset is not a number from 1 to 6"
reason_text NoCall = codes "a call is none of append E, drop, replace I E and look"
reason_text NoNumber = codes "a call's number is not a number of at most 64 bits"
reason_text Twice = codes "the item stands twice"
reason_text OutOfOrder = codes "the item is out of order"
reason_text (Refused q) = codes "the point gets " ++ text_of q
