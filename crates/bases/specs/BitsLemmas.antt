-- The laws of the field of two elements.
use Rattle.std.specs.Prelude.{◌≡◌, ℕ, zero, suc, ◌<◌, Bool, true, false, ◌&&◌, [], ◌∷◌, refl}
use Rattle.std.proofs.Math.Bool.{and_assoc, and_comm, and-true}
use Rattle.std.proofs.Common.{true≢false, arith, lit≤, lit<}
use Rattle.algebra.specs.Ring.{Laws, multiple}
use Rattle.numbers.specs.Systems.{Lawful}
use Rattle.bases.specs.Singles.{OneBelow}
use Rattle.bases.specs.Bits.{either_or, bit_ops, number, bits}

add_assoc : (a b c : Bool) → either_or (either_or a b) c ≡ either_or a (either_or b c)
add_assoc true true true = refl
add_assoc true true false = refl
add_assoc true false c = refl
add_assoc false b c = refl

add_comm : (a b : Bool) → either_or a b ≡ either_or b a
add_comm true true = refl
add_comm true false = refl
add_comm false true = refl
add_comm false false = refl

add-zero : (a : Bool) → either_or a false ≡ a
add-zero true = refl
add-zero false = refl

add_self : (a : Bool) → either_or a a ≡ false
add_self true = refl
add_self false = refl

mul-add : (a b c : Bool) → (a && either_or b c) ≡ either_or (a && b) (a && c)
mul-add true b c = refl
mul-add false b c = refl

pub bit_laws : Laws bit_ops
bit_laws = record {
  add_assoc = add_assoc;
  add_comm = add_comm;
  add-zero = add-zero;
  add-neg = add_self;
  mul_assoc = and_assoc;
  mul_comm = and_comm;
  mul-one = and-true;
  mul-add = mul-add;
}

list_element : (b : Bool) → OneBelow 2 (number b ∷ [])
list_element true = (1, refl, lit< tt)
list_element false = (0, refl, lit< tt)

element : (n : ℕ) → n < 2 → (b : Bool) × (number b ≡ n)
element zero p = (false, refl)
element (suc zero) p = (true, refl)
element (suc (suc n)) p = absurd (omega arith)

number_injective : (a b : Bool) → number a ≡ number b → a ≡ b
number_injective true true e = refl
number_injective true false e = cc
number_injective false true e = cc
number_injective false false e = refl

-- n times one has the number n
pub number_multiple : (n : ℕ) → n < 2 → number (multiple bit_ops n) ≡ n
number_multiple zero p = refl
number_multiple (suc zero) p = refl
number_multiple (suc (suc n)) p = absurd (omega arith)

pub bits_lawful : Lawful bits
bits_lawful = record {
  ring = bit_laws;
  one_not_zero = true≢false;
  list_element = list_element;
  element_list = λ l h. let x = element h.0 h.2 in (x.0, cc (x.1, h.1));
  list_injective = λ a b e. number_injective a b (cc);
  list_size = λ b. refl;
  limit_two = lit≤ tt;
  entries_differ = λ m n p q e. let j = number_multiple m p in let k = number_multiple n q in cc;
}
