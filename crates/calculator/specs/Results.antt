-- What a command gives, and how it is refused. Its operands are lists of numbers, which are to be elements.
use Rattle.std.specs.Prelude.{◌≡◌, ℕ, suc, ◌<◌, ◌≤◌, ◌⊎◌, List, [], ◌∷◌, length, Ok, Err, Result, MatchOption, MatchResult}
use Rattle.std.proofs.Common.{lit≤}
use Rattle.algebra.specs.Ring.{sub, multiple, power}
use Rattle.algebra.specs.Units.{Inverts, NoInverse}
use Rattle.bases.specs.Bits.{bits}
use Rattle.bases.specs.Residues.{residues}
use Rattle.numbers.specs.Systems.{Sys}
use Rattle.numbers.specs.Lists.{Sized, Elements, Refused}
use Rattle.numbers.specs.declared.refusal.Refusal as R
use Rattle.numbers.specs.declared.refusal.Refusal.{Refusal}
use Rattle.extensions.specs.Conjugates.{repeated, scaled, PseudoInverse, NoPseudoInverse}
use Rattle.calculator.specs.Settings.{Setting, whole, nine, Nth}
use Rattle.calculator.specs.declared.command.Base.{Base}
use Rattle.calculator.specs.declared.command.Base.TheVariants.{Two, Eleven, BabyBear, KoalaBear, Mersenne31}
use Rattle.calculator.specs.declared.command.Call.{Call}
use Rattle.calculator.specs.declared.command.Call.TheVariants.{Sum, Difference, Negative, Multiply, Square, Power, Entry, Inverse}
use Rattle.calculator.specs.declared.command.SystemCall.{SystemCall}
use Rattle.calculator.specs.declared.command.SystemCall.TheVariants.{Common, Scale, Frobenius, ConjugateInverse}
use Rattle.calculator.specs.declared.command.Command as C
use Rattle.calculator.specs.declared.command.Command.{Command}
use Rattle.calculator.specs.declared.command.Halt as H
use Rattle.calculator.specs.declared.command.Halt.{Halt}

-- the lists among the operands
abbrev pub lists : {L : Type 0} → Call L → List L
lists (Sum a b) = a ∷ b ∷ []
lists (Difference a b) = a ∷ b ∷ []
lists (Negative a) = a ∷ []
lists (Multiply a b) = a ∷ b ∷ []
lists (Square a) = a ∷ []
lists (Power a e) = a ∷ []
lists (Entry n) = []
lists (Inverse a) = a ∷ []

-- the element that means the list has the property; both do
abbrev pub One : (s : Sys) → List ℕ → (s.Elem → Type 0) → Type 0
One s l P = (a : s.Elem) × (s.list a ≡ l) × P a

abbrev pub Both : (s : Sys) → List ℕ → List ℕ → (s.Elem → s.Elem → Type 0) → Type 0
Both s l k P = One s l (λ a. One s k (λ b. P a b))

-- x is what the call gives
abbrev pub Gives : (s : Sys) → Call (List ℕ) → s.Elem → Type 0
Gives s (Sum l k) x = Both s l k (λ a b. x ≡ s.ops.add a b)
Gives s (Difference l k) x = Both s l k (λ a b. x ≡ sub s.ops a b)
Gives s (Negative l) x = One s l (λ a. x ≡ s.ops.neg a)
Gives s (Multiply l k) x = Both s l k (λ a b. x ≡ s.ops.mul a b)
Gives s (Square l) x = One s l (λ a. x ≡ s.ops.mul a a)
Gives s (Power l e) x = One s l (λ a. x ≡ power s.ops a e)
Gives s (Entry n) x = (n < s.limit) × (x ≡ multiple s.ops n)
Gives s (Inverse l) x = One s l (λ a. Inverts s.ops a x)

-- the call is refused though its lists are elements
abbrev pub Denied : (s : Sys) → Call (List ℕ) → Refusal → Type 0
Denied s (Sum l k) e = ⊥
Denied s (Difference l k) e = ⊥
Denied s (Negative l) e = ⊥
Denied s (Multiply l k) e = ⊥
Denied s (Square l) e = ⊥
Denied s (Power l n) e = ⊥
Denied s (Entry n) e = (s.limit ≤ n) × (e ≡ R.TheVariants.OverLimit)
Denied s (Inverse l) e = One s l (λ a. NoInverse s.ops a) × (e ≡ R.TheVariants.NoInverse)

-- the call is refused: for its lists, or else for what it asks
abbrev pub Stops : (s : Sys) → Call (List ℕ) → Refusal → Type 0
Stops s c e = Refused s (lists c) e ⊎ Denied s c e

-- x is what the call gives in an extension; what goes by conjugates it gives only where there are some
abbrev pub SystemGives : (t : Setting) → SystemCall (List ℕ) → (whole t).Elem → Type 0
SystemGives t (Common c) x = Gives (whole t) c x
SystemGives t (Scale l k) x = One (whole t) l (λ a. One t.below k (λ b. x ≡ scaled (suc t.d) t.below.ops b a))
SystemGives t (Frobenius l n) x = One (whole t) l (λ a. MatchOption t.conjugate ⊥ (λ φ. x ≡ repeated φ n a))
SystemGives t (ConjugateInverse l) x = One (whole t) l (λ a. MatchOption t.conjugate ⊥ (λ φ. PseudoInverse (whole t).ops a x))

-- the refusal of two lists that are not elements, l of the system s and k of b: of a wrong length first, and then of a number that is too large
abbrev pub RefusedTwo : (s b : Sys) → List ℕ → List ℕ → Refusal → Type 0
RefusedTwo s b l k e =
    (((length l ≡ s.size) × Sized b (k ∷ []) → ⊥) × (e ≡ R.TheVariants.CutList))
    ⊎ (((length l ≡ s.size) × Sized b (k ∷ [])) × (s.IsElement l × Elements b (k ∷ []) → ⊥) × (e ≡ R.TheVariants.OverLimit))

-- the call is refused for its lists
abbrev pub SystemRefused : (t : Setting) → SystemCall (List ℕ) → Refusal → Type 0
SystemRefused t (Common c) e = Refused (whole t) (lists c) e
SystemRefused t (Scale l k) e = RefusedTwo (whole t) t.below l k e
SystemRefused t (Frobenius l n) e = Refused (whole t) (l ∷ []) e
SystemRefused t (ConjugateInverse l) e = Refused (whole t) (l ∷ []) e

-- the call is refused though its lists are elements: for want of conjugates first
abbrev pub SystemDenied : (t : Setting) → SystemCall (List ℕ) → Refusal → Type 0
SystemDenied t (Common c) e = Denied (whole t) c e
SystemDenied t (Scale l k) e = ⊥
SystemDenied t (Frobenius l n) e = One (whole t) l (λ a. MatchOption t.conjugate (e ≡ R.TheVariants.NoConjugates) (λ φ. ⊥))
SystemDenied t (ConjugateInverse l) e =
    One (whole t) l (λ a. MatchOption t.conjugate (e ≡ R.TheVariants.NoConjugates) (λ φ. NoPseudoInverse (whole t).ops a × (e ≡ R.TheVariants.NoInverse)))

abbrev pub SystemStops : (t : Setting) → SystemCall (List ℕ) → Refusal → Type 0
SystemStops t c e = SystemRefused t c e ⊎ SystemDenied t c e

-- the result means what the call gives, or is its refusal
abbrev pub Settled : {X : Type 0} (t : Setting) → (X → (whole t).Elem) → SystemCall (List ℕ) → Result X Refusal → Type 0
Settled t mean c r = MatchResult r (λ x. SystemGives t c (mean x)) (SystemStops t c)

-- the number system of a base
abbrev pub system_of : Base → Sys
system_of Two = bits
system_of Eleven = residues 11 (lit≤ tt)
system_of BabyBear = residues 2013265921 (lit≤ tt)
system_of KoalaBear = residues 2130706433 (lit≤ tt)
system_of Mersenne31 = residues 2147483647 (lit≤ tt)

-- the list means an element with the property
abbrev pub Shows : (s : Sys) → (s.Elem → Type 0) → List ℕ → Type 0
Shows s P l = (x : s.Elem) × P x × (l ≡ s.list x)

-- the list means what the command gives
abbrev pub GivesList : Command (List ℕ) → List ℕ → Type 0
GivesList (C.TheVariants.Base b c) l = Shows (system_of b) (Gives (system_of b) c) l
GivesList (C.TheVariants.System n c) l = Nth nine n (λ t. Shows (whole t) (SystemGives t c) l) ⊥

-- the command is refused
abbrev pub IsRefused : Command (List ℕ) → Refusal → Type 0
IsRefused (C.TheVariants.Base b c) e = Stops (system_of b) c e
IsRefused (C.TheVariants.System n c) e = Nth nine n (λ t. SystemStops t c e) (e ≡ R.TheVariants.StrangeSystem)

-- The result shows a list with the first property, or is a refusal with the second; want of memory can only keep back a list that there is.
abbrev pub Worked : {V : Type 0} → (V → List ℕ) → (List ℕ → Type 0) → (Refusal → Type 0) → Result V Halt → Type 0
Worked shows P Q (Ok v) = P (shows v)
Worked shows P Q (Err (H.TheVariants.Refused e)) = Q e
Worked shows P Q (Err (H.TheVariants.NoMemory e)) = (l : List ℕ) × P l
