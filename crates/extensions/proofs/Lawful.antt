-- An extension is a number system again, whatever its product, if that makes it a ring.
use Rattle.std.proofs.Common.{◌≡◌, ℕ, suc, ◌+◌, ◌*◌, T, List, [], ◌∷◌, ◌++◌, length, sym, refl, ap, ◌∙◌, ap₂, arith, length-append}
use Prim.Native.Nat as N
use native.Mathlib.Nat as Nat
use Rattle.algebra.specs.Ring.{Ops, Laws, multiple}
use Rattle.numbers.specs.Systems.{Sys, Lawful}
use Rattle.extensions.specs.Tuples.{Tuple, fill}
use Rattle.extensions.specs.Schoolbook.{binomial}
use Rattle.extensions.specs.Extensions.{extend, joined, Parts, extension, binomial_extension, trinomial_extension}
use Rattle.extensions.proofs.Products.{passes, binomial_laws, trinomial_laws}
use Rattle.extensions.proofs.Tuples.{both-fill}

-- equal lists that begin with parts of one length begin with equal parts, and go on equally
split_same : (a b c d : List ℕ) → length a ≡ length c → a ++ b ≡ c ++ d → (a ≡ c) × (b ≡ d)
split_same [] b [] d s e = (refl, e)
split_same [] b (y ∷ c) d s e = absurd (omega arith)
split_same (x ∷ a) b [] d s e = absurd (omega arith)
split_same (x ∷ a) b (y ∷ c) d s e =
    let s' : length a ≡ length c = cc in
    let h : x ≡ y = cc in
    let t : a ++ b ≡ c ++ d = cc in
    let r = split_same a b c d s' t in
    (ap₂ ◌∷◌ h r.0, r.1)

module _ {A : Type 0} (list : A → List ℕ) where
  pub joined_size : (size : ℕ) → ((x : A) → length (list x) ≡ size) → (n : ℕ) (t : Tuple n A) → length (joined n list t) ≡ n * size
  joined_size size h N.zero t = sym (Nat.zero-mul size)
  joined_size size h (suc n) t =
      length-append (list t.0) (joined n list t.1) ∙ ap₂ ◌+◌ (h t.0) (joined_size size h n t.1)
      ∙ Nat.add_comm size (n * size) ∙ sym (Nat.suc-mul n size)

  joined_injective : (size : ℕ) → ((x : A) → length (list x) ≡ size) → ((x y : A) → list x ≡ list y → x ≡ y)
      → (n : ℕ) (s t : Tuple n A) → joined n list s ≡ joined n list t → s ≡ t
  joined_injective size h inj N.zero s t e = refl
  joined_injective size h inj (suc n) s t e =
      let r = split_same (list s.0) (joined n list s.1) (list t.0) (joined n list t.1) (h s.0 ∙ sym (h t.0)) e in
      λ i. (inj s.0 t.0 r.0 i, joined_injective size h inj n s.1 t.1 r.1 i)

  module _ (P : List ℕ → Type 0) where
    joined_parts : ((x : A) → P (list x)) → (n : ℕ) (t : Tuple n A) → Parts n P (joined n list t)
    joined_parts h N.zero t = refl
    joined_parts h (suc n) t = (list t.0, joined n list t.1, refl, h t.0, joined_parts h n t.1)

    parts_joined : ((l : List ℕ) → P l → (x : A) × (list x ≡ l)) → (n : ℕ) (l : List ℕ) → Parts n P l → (t : Tuple n A) × (joined n list t ≡ l)
    parts_joined h N.zero l p = (tt, sym p)
    parts_joined h (suc n) l p =
        let x = h p.0 p.3 in
        let t = parts_joined h n p.1 p.4 in
        ((x.0, t.0), ap₂ ◌++◌ x.1 t.1 ∙ sym p.2)

-- an entry stands at power 0
pub multiple_extend : {A : Type 0} (d : ℕ) (o : Ops A) → Laws o → (mul : Tuple (suc d) A → Tuple (suc d) A → Tuple (suc d) A) (k : ℕ)
    → multiple (extend d o mul) k ≡ (multiple o k, fill d o.zero)
multiple_extend d o L mul N.zero = refl
multiple_extend d o L mul (suc k) =
    ap ((extend d o mul).add (extend d o mul).one) (multiple_extend d o L mul k)
    ∙ (λ i. (o.add o.one (multiple o k), both-fill o.add o.zero L.add-zero d (fill d o.zero) i))

pub extension_lawful : (d : ℕ) (B : Sys) (mul : Tuple (suc d) B.Elem → Tuple (suc d) B.Elem → Tuple (suc d) B.Elem)
    → Laws (extend d B.ops mul) → Lawful B → Lawful (extension d B mul)
extension_lawful d B mul L lawful = record {
  ring = L;
  one_not_zero = λ e. lawful.one_not_zero (ap (λ t. t.0) e);
  list_element = joined_parts B.list B.IsElement lawful.list_element (suc d);
  element_list = parts_joined B.list B.IsElement lawful.element_list (suc d);
  list_injective = joined_injective B.list B.size lawful.list_size lawful.list_injective (suc d);
  list_size = joined_size B.list B.size lawful.list_size (suc d);
  limit_two = lawful.limit_two;
  entries_differ = λ m n p q e. lawful.entries_differ m n p q
      (ap (λ t. t.0) (sym (multiple_extend d B.ops lawful.ring mul m) ∙ e ∙ multiple_extend d B.ops lawful.ring mul n));
}

pub binomial_lawful : (d : ℕ) → T (passes d (λ A o w. binomial (suc d) o w)) → (B : Sys) → Lawful B → (w : B.Elem) → Lawful (binomial_extension d B w)
binomial_lawful d test B lawful w = extension_lawful d B (binomial (suc d) B.ops w) (binomial_laws d test B.ops lawful.ring w) lawful

pub trinomial_lawful : (B : Sys) → Lawful B → Lawful (trinomial_extension B)
trinomial_lawful B lawful = extension_lawful 4 B _ (trinomial_laws B.ops lawful.ring) lawful
