-- Calls, whose lists may be shown as other lists, and how many operands each has.
use Rattle.std.specs.Prelude.{ℕ}
use Rattle.calculator.specs.declared.command.Verb as V
use Rattle.calculator.specs.declared.command.Verb.{Verb}
use Rattle.calculator.specs.declared.command.Call.{Call}
use Rattle.calculator.specs.declared.command.Call.TheVariants.{Sum, Difference, Negative, Multiply, Square, Power, Entry, Inverse}
use Rattle.calculator.specs.declared.command.SystemVerb as W
use Rattle.calculator.specs.declared.command.SystemVerb.{SystemVerb}
use Rattle.calculator.specs.declared.command.SystemCall.{SystemCall}
use Rattle.calculator.specs.declared.command.SystemCall.TheVariants.{Common, Scale, Frobenius, ConjugateInverse}
use Rattle.calculator.specs.declared.command.Command.{Command}
use Rattle.calculator.specs.declared.command.Command.TheVariants.{Base, System}

-- the same call, or command, with each list shown as another
abbrev pub shown : {L M : Type 0} → (L → M) → Call L → Call M
shown f (Sum a b) = Sum (f a) (f b)
shown f (Difference a b) = Difference (f a) (f b)
shown f (Negative a) = Negative (f a)
shown f (Multiply a b) = Multiply (f a) (f b)
shown f (Square a) = Square (f a)
shown f (Power a e) = Power (f a) e
shown f (Entry n) = Entry n
shown f (Inverse a) = Inverse (f a)

abbrev pub system_shown : {L M : Type 0} → (L → M) → SystemCall L → SystemCall M
system_shown f (Common c) = Common (shown f c)
system_shown f (Scale a b) = Scale (f a) (f b)
system_shown f (Frobenius a n) = Frobenius (f a) n
system_shown f (ConjugateInverse a) = ConjugateInverse (f a)

abbrev pub command_shown : {L M : Type 0} → (L → M) → Command L → Command M
command_shown f (Base b c) = Base b (shown f c)
command_shown f (System n c) = System n (system_shown f c)

abbrev pub verb_of : {L : Type 0} → Call L → Verb
verb_of (Sum a b) = V.TheVariants.Sum
verb_of (Difference a b) = V.TheVariants.Difference
verb_of (Negative a) = V.TheVariants.Negative
verb_of (Multiply a b) = V.TheVariants.Multiply
verb_of (Square a) = V.TheVariants.Square
verb_of (Power a e) = V.TheVariants.Power
verb_of (Entry n) = V.TheVariants.Entry
verb_of (Inverse a) = V.TheVariants.Inverse

abbrev pub system_verb_of : {L : Type 0} → SystemCall L → SystemVerb
system_verb_of (Common c) = W.TheVariants.Common (verb_of c)
system_verb_of (Scale a b) = W.TheVariants.Scale
system_verb_of (Frobenius a n) = W.TheVariants.Frobenius
system_verb_of (ConjugateInverse a) = W.TheVariants.ConjugateInverse

-- how many operands a call has
abbrev pub operands : Verb → ℕ
operands V.TheVariants.Sum = 2
operands V.TheVariants.Difference = 2
operands V.TheVariants.Negative = 1
operands V.TheVariants.Multiply = 2
operands V.TheVariants.Square = 1
operands V.TheVariants.Power = 2
operands V.TheVariants.Entry = 1
operands V.TheVariants.Inverse = 1

abbrev pub system_operands : SystemVerb → ℕ
system_operands (W.TheVariants.Common v) = operands v
system_operands W.TheVariants.Scale = 2
system_operands W.TheVariants.Frobenius = 2
system_operands W.TheVariants.ConjugateInverse = 1
