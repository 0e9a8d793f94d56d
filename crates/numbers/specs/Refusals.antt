-- The refusals: the number that a host call answers, and the word that a person reads.
use Rattle.std.specs.Prelude.{ℕ, List, ◌++◌, codes, decimal}
use Rattle.numbers.specs.declared.refusal.Refusal.{Refusal}
use Rattle.numbers.specs.declared.refusal.Refusal.TheVariants.{StrangeSystem, CutList, OverLimit, NoInverse, NoConjugates, FullSheet, EmptySheet, NoSuchPlace}

abbrev pub number_of : Refusal → ℕ
number_of StrangeSystem = 1
number_of CutList = 2
number_of OverLimit = 3
number_of NoInverse = 4
number_of NoConjugates = 5
number_of FullSheet = 6
number_of EmptySheet = 7
number_of NoSuchPlace = 8

abbrev pub word_of : Refusal → List ℕ
word_of StrangeSystem = codes "strange system"
word_of CutList = codes "cut list"
word_of OverLimit = codes "over the limit"
word_of NoInverse = codes "no inverse"
word_of NoConjugates = codes "no conjugates"
word_of FullSheet = codes "full sheet"
word_of EmptySheet = codes "empty sheet"
word_of NoSuchPlace = codes "no such place"

-- the refusal as it is printed, by its number and its word
abbrev pub text_of : Refusal → List ℕ
text_of e = codes "refusal " ++ (decimal (number_of e) ++ (codes " (" ++ (word_of e ++ codes ")")))
