-- Which line is which command, and why a line is none.
use Rattle.std.specs.Prelude.{◌≡◌, ℕ, ◌+◌, ◌⊎◌, List, [], length, codes, ◌≢◌, slice_index_or, Result, MatchResult}
use Rattle.calculator.specs.Text.{Number, Listing}
use Rattle.calculator.specs.Calls.{verb_of, system_verb_of, operands, system_operands}
use Rattle.calculator.specs.declared.command.Base.{Base}
use Rattle.calculator.specs.declared.command.Base.TheVariants.{Two, Eleven, BabyBear, KoalaBear, Mersenne31}
use Rattle.calculator.specs.declared.command.Verb as V
use Rattle.calculator.specs.declared.command.Verb.{Verb}
use Rattle.calculator.specs.declared.command.Call.{Call}
use Rattle.calculator.specs.declared.command.Call.TheVariants.{Sum, Difference, Negative, Multiply, Square, Power, Entry, Inverse}
use Rattle.calculator.specs.declared.command.SystemVerb as W
use Rattle.calculator.specs.declared.command.SystemVerb.{SystemVerb}
use Rattle.calculator.specs.declared.command.SystemCall.{SystemCall}
use Rattle.calculator.specs.declared.command.SystemCall.TheVariants.{Common, Scale, Frobenius, ConjugateInverse}
use Rattle.calculator.specs.declared.command.Command as C
use Rattle.calculator.specs.declared.command.Command.{Command}
use Rattle.calculator.specs.declared.command.Fault.{Fault}
use Rattle.calculator.specs.declared.command.Fault.TheVariants.{Unreadable, NoMemory}
use Rattle.calculator.specs.declared.command.Reason.{Reason}
use Rattle.calculator.specs.declared.command.Reason.TheVariants.{NoPlace, UnknownBase, UnknownSystem, UnknownCall, WrongOperands, NoElement, NoNumber}

-- a base is named by its modulus
abbrev pub modulus_text : Base → List ℕ
modulus_text Two = codes "2"
modulus_text Eleven = codes "11"
modulus_text BabyBear = codes "2013265921"
modulus_text KoalaBear = codes "2130706433"
modulus_text Mersenne31 = codes "2147483647"

-- the names of the calls
abbrev pub verb_text : Verb → List ℕ
verb_text V.TheVariants.Sum = codes "sum"
verb_text V.TheVariants.Difference = codes "difference"
verb_text V.TheVariants.Negative = codes "negative"
verb_text V.TheVariants.Multiply = codes "multiply"
verb_text V.TheVariants.Square = codes "square"
verb_text V.TheVariants.Power = codes "power"
verb_text V.TheVariants.Entry = codes "entry"
verb_text V.TheVariants.Inverse = codes "inverse"

abbrev pub system_verb_text : SystemVerb → List ℕ
system_verb_text (W.TheVariants.Common v) = verb_text v
system_verb_text W.TheVariants.Scale = codes "scale"
system_verb_text W.TheVariants.Frobenius = codes "frobenius"
system_verb_text W.TheVariants.ConjugateInverse = codes "conjugate_inverse"

-- the result is what the text names, or it names nothing, for this reason
abbrev pub Names : {A : Type 0} → (A → List ℕ) → Reason → List ℕ → Result A Reason → Type 0
Names {A} text_of unknown text r = MatchResult r (λ a. text ≡ text_of a) (λ why. (why ≡ unknown) × ((a : A) → text ≢ text_of a))

abbrev pub NamesBase : List ℕ → Result Base Reason → Type 0
NamesBase = Names modulus_text UnknownBase

abbrev pub NamesVerb : List ℕ → Result Verb Reason → Type 0
NamesVerb = Names verb_text UnknownCall

abbrev pub NamesSystemVerb : List ℕ → Result SystemVerb Reason → Type 0
NamesSystemVerb = Names system_verb_text UnknownCall

-- the two texts (or the first alone) are the operands of the call
abbrev pub Operands : Call (List ℕ) → List ℕ → List ℕ → Type 0
Operands (Sum a b) s t = Listing s a × Listing t b
Operands (Difference a b) s t = Listing s a × Listing t b
Operands (Negative a) s t = Listing s a
Operands (Multiply a b) s t = Listing s a × Listing t b
Operands (Square a) s t = Listing s a
Operands (Power a e) s t = Listing s a × Number t e
Operands (Entry n) s t = Number s n
Operands (Inverse a) s t = Listing s a

abbrev pub SystemOperands : SystemCall (List ℕ) → List ℕ → List ℕ → Type 0
SystemOperands (Common c) s t = Operands c s t
SystemOperands (Scale a b) s t = Listing s a × Listing t b
SystemOperands (Frobenius a n) s t = Listing s a × Number t n
SystemOperands (ConjugateInverse a) s t = Listing s a

-- no list of numbers, no number
abbrev pub NoListing : List ℕ → Type 0
NoListing t = (ns : List ℕ) → Listing t ns → ⊥

abbrev pub NotNumber : List ℕ → Type 0
NotNumber t = (n : ℕ) → Number t n → ⊥

-- one of two lists fails; a list and then a number fail
abbrev pub TwoListsFail : List ℕ → List ℕ → Reason → Type 0
TwoListsFail s t why = (NoListing s ⊎ NoListing t) × (why ≡ NoElement)

abbrev pub ListAndNumberFail : List ℕ → List ℕ → Reason → Type 0
ListAndNumberFail s t why = (NoListing s × (why ≡ NoElement)) ⊎ (((ns : List ℕ) × Listing s ns) × NotNumber t × (why ≡ NoNumber))

-- the operand that fails first, by the call
abbrev pub Fails : Verb → List ℕ → List ℕ → Reason → Type 0
Fails V.TheVariants.Sum s t why = TwoListsFail s t why
Fails V.TheVariants.Difference s t why = TwoListsFail s t why
Fails V.TheVariants.Negative s t why = NoListing s × (why ≡ NoElement)
Fails V.TheVariants.Multiply s t why = TwoListsFail s t why
Fails V.TheVariants.Square s t why = NoListing s × (why ≡ NoElement)
Fails V.TheVariants.Power s t why = ListAndNumberFail s t why
Fails V.TheVariants.Entry s t why = NotNumber s × (why ≡ NoNumber)
Fails V.TheVariants.Inverse s t why = NoListing s × (why ≡ NoElement)

abbrev pub SystemFails : SystemVerb → List ℕ → List ℕ → Reason → Type 0
SystemFails (W.TheVariants.Common v) s t why = Fails v s t why
SystemFails W.TheVariants.Scale s t why = TwoListsFail s t why
SystemFails W.TheVariants.Frobenius s t why = ListAndNumberFail s t why
SystemFails W.TheVariants.ConjugateInverse s t why = NoListing s × (why ≡ NoElement)

-- A kind of line. The second word names a place of the type Place, where a call of the type Asked is worked out.
pub record Kind (Place Named Asked : Type 0) : Type 1 where
  -- the first word
  pub keyword : List ℕ
  -- which second word is which place, and the reason where it is none
  pub Is : List ℕ → Place → Type 0
  pub unknown : Reason
  -- the names of the calls, how many operands each has, and which operand fails first
  pub text_of : Named → List ℕ
  pub count : Named → ℕ
  pub Fail : Named → List ℕ → List ℕ → Reason → Type 0
  -- the name of a call, and which texts are its operands
  pub name : Asked → Named
  pub Are : Asked → List ℕ → List ℕ → Type 0

abbrev pub base_lines : Kind Base Verb (Call (List ℕ))
base_lines = record {
  keyword = codes "base";
  Is = λ text b. text ≡ modulus_text b;
  unknown = UnknownBase;
  text_of = verb_text;
  count = operands;
  Fail = Fails;
  name = verb_of;
  Are = Operands;
}

abbrev pub system_lines : Kind ℕ SystemVerb (SystemCall (List ℕ))
system_lines = record {
  keyword = codes "system";
  Is = Number;
  unknown = UnknownSystem;
  text_of = system_verb_text;
  count = system_operands;
  Fail = SystemFails;
  name = system_verb_of;
  Are = SystemOperands;
}

abbrev pub word : List (List ℕ) → ℕ → List ℕ
word ws i = slice_index_or ws i []

-- the words are a line of the kind: its first word, the place, the call and its operands
pub record Says {P N A : Type 0} (k : Kind P N A) (place : P) (call : A) (ws : List (List ℕ)) : Type 0 where
  pub keyword : word ws 0 ≡ k.keyword
  pub named : k.Is (word ws 1) place
  pub verb : word ws 2 ≡ k.text_of (k.name call)
  pub count : length ws ≡ 3 + k.count (k.name call)
  pub operand : k.Are call (word ws 3) (word ws 4)

-- the words are the command
abbrev pub Writes : Command (List ℕ) → List (List ℕ) → Type 0
Writes (C.TheVariants.Base b c) ws = Says base_lines b c ws
Writes (C.TheVariants.System n c) ws = Says system_lines n c ws

-- the operands of the call are too few or too many, or else one of them fails
abbrev pub OperandsLack : {P N A : Type 0} → Kind P N A → N → List (List ℕ) → Reason → Type 0
OperandsLack k v ws why = ((length ws ≢ 3 + k.count v) × (why ≡ WrongOperands)) ⊎ ((length ws ≡ 3 + k.count v) × k.Fail v (word ws 3) (word ws 4) why)

-- the call is unknown, or else its operands lack something
abbrev pub CallLacks : {P N A : Type 0} → Kind P N A → List (List ℕ) → Reason → Type 0
CallLacks {P} {N} k ws why = (((v : N) → word ws 2 ≢ k.text_of v) × (why ≡ UnknownCall)) ⊎ ((v : N) × (word ws 2 ≡ k.text_of v) × OperandsLack k v ws why)

-- what a reason says of the words of a line of the kind: the place is unknown, or else the call lacks something
abbrev pub Lacks : {P N A : Type 0} → Kind P N A → List (List ℕ) → Reason → Type 0
Lacks {P} k ws why = (((p : P) → k.Is (word ws 1) p → ⊥) × (why ≡ k.unknown)) ⊎ (((p : P) × k.Is (word ws 1) p) × CallLacks k ws why)

-- what a reason says of the words: all before it is right, and this is not
abbrev pub Because : List (List ℕ) → Reason → Type 0
Because ws why =
    ((word ws 0 ≢ base_lines.keyword) × (word ws 0 ≢ system_lines.keyword) × (why ≡ NoPlace))
    ⊎ ((word ws 0 ≡ base_lines.keyword) × Lacks base_lines ws why)
    ⊎ ((word ws 0 ≡ system_lines.keyword) × Lacks system_lines ws why)

-- what is printed for a reason
abbrev pub reason_text : Reason → List ℕ
reason_text NoPlace = codes "the line begins with neither base nor system"
reason_text UnknownBase = codes "unknown base"
reason_text UnknownSystem = codes "the system is not a number of at most 64 bits"
reason_text UnknownCall = codes "unknown call"
reason_text WrongOperands = codes "wrong number of operands"
reason_text NoElement = codes "an operand is not a list of numbers in brackets"
reason_text NoNumber = codes "an operand is not a number of at most 64 bits"

-- where memory did not fail, the reason has the property
abbrev pub Hindered : (Reason → Type 0) → Fault → Type 0
Hindered P (Unreadable why) = P why
Hindered P (NoMemory e) = Unit {0}

-- no command is written so
abbrev pub Nothing : List (List ℕ) → Type 0
Nothing ws = (c : Command (List ℕ)) → Writes c ws → ⊥
