-- A reason that holds of the words of a line says that no command is written so.
use Rattle.std.proofs.Common.{◌≡◌, ℕ, ◌+◌, if◌then◌else◌, eqb, List, get_or, length, sym, refl, ap, ◌∙◌, subst, ⊎_elim, inl, inr, arith}
use Rattle.std.specs.Prelude.{Ok, Err, Result, MatchResult}
use Rattle.std.specs.Result.{IsErrAnd}
use Rattle.calculator.specs.Calls.{verb_of, system_verb_of}
use Rattle.calculator.specs.Commands.{verb_text, system_verb_text, Operands, SystemOperands, TwoListsFail, ListAndNumberFail, Fails, SystemFails, Kind, base_lines, system_lines, word, Says, Lacks, Because, Hindered, Nothing}
use Rattle.calculator.specs.Text.{Number, Listing}
use Rattle.calculator.specs.declared.command.Verb as V
use Rattle.calculator.specs.declared.command.Verb.{Verb}
use Rattle.calculator.specs.declared.command.SystemVerb as W
use Rattle.calculator.specs.declared.command.SystemVerb.{SystemVerb}
use Rattle.calculator.specs.declared.command.Call.{Call}
use Rattle.calculator.specs.declared.command.Call.TheVariants.{Sum, Difference, Negative, Multiply, Square, Power, Entry, Inverse}
use Rattle.calculator.specs.declared.command.SystemCall.{SystemCall}
use Rattle.calculator.specs.declared.command.SystemCall.TheVariants.{Common, Scale, Frobenius, ConjugateInverse}
use Rattle.calculator.specs.declared.command.Command.TheVariants.{Base, System}
use Rattle.calculator.specs.declared.command.Fault.{Fault}
use Rattle.calculator.specs.declared.command.Fault.TheVariants.{Unreadable, NoMemory}
use Rattle.calculator.specs.declared.command.Reason.{Reason}

-- the third letters tell the calls apart
letter : List ℕ → ℕ
letter t = get_or t 2 0

by_letter : ℕ → SystemVerb
by_letter n =
    if eqb n 97 then W.TheVariants.Scale
    else if eqb n 111 then W.TheVariants.Frobenius
    else if eqb n 110 then W.TheVariants.ConjugateInverse
    else if eqb n 109 then W.TheVariants.Common V.TheVariants.Sum
    else if eqb n 102 then W.TheVariants.Common V.TheVariants.Difference
    else if eqb n 103 then W.TheVariants.Common V.TheVariants.Negative
    else if eqb n 108 then W.TheVariants.Common V.TheVariants.Multiply
    else if eqb n 117 then W.TheVariants.Common V.TheVariants.Square
    else if eqb n 119 then W.TheVariants.Common V.TheVariants.Power
    else if eqb n 116 then W.TheVariants.Common V.TheVariants.Entry
    else W.TheVariants.Common V.TheVariants.Inverse

by_its_letter : (v : SystemVerb) → by_letter (letter (system_verb_text v)) ≡ v
unfolding letter by_letter
by_its_letter W.TheVariants.Scale = refl
by_its_letter W.TheVariants.Frobenius = refl
by_its_letter W.TheVariants.ConjugateInverse = refl
by_its_letter (W.TheVariants.Common V.TheVariants.Sum) = refl
by_its_letter (W.TheVariants.Common V.TheVariants.Difference) = refl
by_its_letter (W.TheVariants.Common V.TheVariants.Negative) = refl
by_its_letter (W.TheVariants.Common V.TheVariants.Multiply) = refl
by_its_letter (W.TheVariants.Common V.TheVariants.Square) = refl
by_its_letter (W.TheVariants.Common V.TheVariants.Power) = refl
by_its_letter (W.TheVariants.Common V.TheVariants.Entry) = refl
by_its_letter (W.TheVariants.Common V.TheVariants.Inverse) = refl

-- a name is the name of one call
system_text_injective : (v w : SystemVerb) → system_verb_text v ≡ system_verb_text w → v ≡ w
system_text_injective v w e = sym (by_its_letter v) ∙ ap (λ t. by_letter (letter t)) e ∙ by_its_letter w

common : SystemVerb → Verb
common (W.TheVariants.Common v) = v
common W.TheVariants.Scale = V.TheVariants.Sum
common W.TheVariants.Frobenius = V.TheVariants.Sum
common W.TheVariants.ConjugateInverse = V.TheVariants.Sum

text_injective : (v w : Verb) → verb_text v ≡ verb_text w → v ≡ w
unfolding common
text_injective v w e = ap common (system_text_injective (W.TheVariants.Common v) (W.TheVariants.Common w) e)

-- an operand that fails is none of the call's
two_lists : (a b : List ℕ) (s t : List ℕ) (why : Reason) → TwoListsFail s t why → Listing s a × Listing t b → ⊥
two_lists a b s t why f h = ⊎_elim (λ n. n a h.0) (λ n. n b h.1) f.0

list_and_number : (a : List ℕ) (n : ℕ) (s t : List ℕ) (why : Reason) → ListAndNumberFail s t why → Listing s a × Number t n → ⊥
list_and_number a n s t why f h = ⊎_elim (λ m. m.0 a h.0) (λ m. m.1 n h.1) f

fails_operands : (c : Call (List ℕ)) (s t : List ℕ) (why : Reason) → Fails (verb_of c) s t why → Operands c s t → ⊥
fails_operands (Sum a b) s t why f h = two_lists a b s t why f h
fails_operands (Difference a b) s t why f h = two_lists a b s t why f h
fails_operands (Negative a) s t why f h = f.0 a h
fails_operands (Multiply a b) s t why f h = two_lists a b s t why f h
fails_operands (Square a) s t why f h = f.0 a h
fails_operands (Power a n) s t why f h = list_and_number a n s t why f h
fails_operands (Entry n) s t why f h = f.0 n h
fails_operands (Inverse a) s t why f h = f.0 a h

system_fails_operands : (c : SystemCall (List ℕ)) (s t : List ℕ) (why : Reason) → SystemFails (system_verb_of c) s t why → SystemOperands c s t → ⊥
system_fails_operands (Common c) s t why f h = fails_operands c s t why f h
system_fails_operands (Scale a b) s t why f h = two_lists a b s t why f h
system_fails_operands (Frobenius a n) s t why f h = list_and_number a n s t why f h
system_fails_operands (ConjugateInverse a) s t why f h = f.0 a h

module _ {P N A : Type 0} (k : Kind P N A) (ws : List (List ℕ)) (why : Reason) where
  -- an operand that fails is the reason, where all before it is right
  pub fails_lacks : (p : P) (v : N) → k.Is (word ws 1) p → word ws 2 ≡ k.text_of v → length ws ≡ 3 + k.count v → k.Fail v (word ws 3) (word ws 4) why → Lacks k ws why
  fails_lacks p v is e n f = inr ((p, is), inr (v, e, inr (n, f)))

  -- a reason that holds of words says that they are no line of the kind
  lacks_nothing : ((v w : N) → k.text_of v ≡ k.text_of w → v ≡ w) → ((c : A) (s t : List ℕ) (r : Reason) → k.Fail (k.name c) s t r → k.Are c s t → ⊥)
      → Lacks k ws why → (p : P) (c : A) → Says k p c ws → ⊥
  lacks_nothing one fails (inl h) p c w = h.0 p w.named
  lacks_nothing one fails (inr (place, inl h)) p c w = h.0 (k.name c) w.verb
  lacks_nothing one fails (inr (place, inr (v, e, inl h))) p c w = h.0 (w.count ∙ ap (λ u. 3 + k.count u) (sym (one v (k.name c) (sym e ∙ w.verb))))
  lacks_nothing one fails (inr (place, inr (v, e, inr h))) p c w =
      fails c (word ws 3) (word ws 4) why (subst (λ u. k.Fail u (word ws 3) (word ws 4) why) (one v (k.name c) (sym e ∙ w.verb)) h.1) w.operand

keywords_differ : base_lines.keyword ≡ system_lines.keyword → ⊥
keywords_differ e = let z : ◌≡◌ {A = ℕ} 98 115 = ap (λ t. get_or t 0 0) e in omega arith

because_nothing : (ws : List (List ℕ)) (why : Reason) → Because ws why → Nothing ws
because_nothing ws why (inl h) (Base b c) w = h.0 w.keyword
because_nothing ws why (inl h) (System n c) w = h.1 w.keyword
because_nothing ws why (inr (inl h)) (Base b c) w = lacks_nothing base_lines ws why text_injective fails_operands h.1 b c w
because_nothing ws why (inr (inl h)) (System n c) w = keywords_differ (sym h.0 ∙ w.keyword)
because_nothing ws why (inr (inr h)) (Base b c) w = keywords_differ (sym w.keyword ∙ h.0)
because_nothing ws why (inr (inr h)) (System n c) w = lacks_nothing system_lines ws why system_text_injective system_fails_operands h.1 n c w

-- what a reason has by another property; an error that is such a hindrance
pub hindered_by : {P Q : Reason → Type 0} (f : Fault) → ((why : Reason) → P why → Q why) → Hindered P f → Hindered Q f
hindered_by (NoMemory e) m h = tt
hindered_by (Unreadable why) m h = m why h

pub err_hindered : {T : Type 0} (G : T → Type 0) {P Q : Reason → Type 0} (r : Result T Fault) (f : Fault) → IsErrAnd r (λ y. y ≡ f) → ((why : Reason) → P why → Q why) → Hindered P f
    → MatchResult r G (Hindered Q)
err_hindered G (Ok x) f e m h = absurd e
err_hindered G (Err y) f e m h = hindered_by y m (rw e h)

pub hindered_nothing : (ws : List (List ℕ)) (f : Fault) → Hindered (Because ws) f → Hindered (λ why. Because ws why × Nothing ws) f
hindered_nothing ws f = hindered_by f (λ why h. (h, because_nothing ws why h))
