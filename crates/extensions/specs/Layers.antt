-- What it is for a system to be an extension of another, told of any two systems.
use Rattle.std.specs.Prelude.{◌≡◌, ℕ, suc, ◌*◌, List, refl}
use Rattle.algebra.specs.Ring.{Ops, Laws}
use Rattle.numbers.specs.Systems.{Sys}
use Rattle.extensions.specs.Tuples.{Tuple, each, both, fill}
use Rattle.extensions.specs.Conjugates.{embed, scaled}
use Rattle.extensions.specs.Extensions.{extend, joined, Parts, extension}

-- a product of tuples as a formula over any operations, in which constants of the type S have a meaning
abbrev pub Product : ℕ → Type 0 → Type 1
Product n S = (A : Type 0) → Ops A → (S → A) → Tuple n A → Tuple n A → Tuple n A

-- such a product for tuples of every length
abbrev pub Products : Type 0 → Type 1
Products S = (n : ℕ) → Product n S

-- The system s is the extension of degree d + 1 of the system B by a product: elements and tuples of elements of B are the same thing.
pub record Extends (d : ℕ) (B : Sys) (times : Tuple (suc d) B.Elem → Tuple (suc d) B.Elem → Tuple (suc d) B.Elem) (s : Sys) : Type 0 where
  pub tuple : s.Elem → Tuple (suc d) B.Elem
  pub element : Tuple (suc d) B.Elem → s.Elem
  pub tuple_element : (t : Tuple (suc d) B.Elem) → tuple (element t) ≡ t
  pub element_tuple : (x : s.Elem) → element (tuple x) ≡ x
  pub zero : tuple s.ops.zero ≡ fill (suc d) B.ops.zero
  pub one : tuple s.ops.one ≡ embed d B.ops B.ops.one
  pub add : (x y : s.Elem) → tuple (s.ops.add x y) ≡ both (suc d) B.ops.add (tuple x) (tuple y)
  pub neg : (x : s.Elem) → tuple (s.ops.neg x) ≡ each (suc d) B.ops.neg (tuple x)
  pub mul : (x y : s.Elem) → tuple (s.ops.mul x y) ≡ times (tuple x) (tuple y)
  pub list : (x : s.Elem) → s.list x ≡ joined (suc d) B.list (tuple x)
  pub size : s.size ≡ suc d * B.size
  pub parts : (l : List ℕ) → s.IsElement l → Parts (suc d) B.IsElement l
  pub limit : s.limit ≡ B.limit
  -- the tuples are a ring, in which a factor from the layer below multiplies each coefficient
  pub ring : Laws (extend d B.ops times)
  pub scaling : (t : Tuple (suc d) B.Elem) (x : B.Elem) → times t (embed d B.ops x) ≡ scaled (suc d) B.ops x t

-- The extension of a system by a product extends it: its elements are the tuples themselves.
abbrev pub extension_extends : (d : ℕ) (B : Sys) (mul : Tuple (suc d) B.Elem → Tuple (suc d) B.Elem → Tuple (suc d) B.Elem)
    → Laws (extend d B.ops mul) → ((t : Tuple (suc d) B.Elem) (x : B.Elem) → mul t (embed d B.ops x) ≡ scaled (suc d) B.ops x t)
    → Extends d B mul (extension d B mul)
extension_extends d B mul ring scaling = record {
  tuple = λ x. x;
  element = λ t. t;
  tuple_element = λ t. refl;
  element_tuple = λ x. refl;
  zero = refl;
  one = refl;
  add = λ x y. refl;
  neg = λ x. refl;
  mul = λ x y. refl;
  list = λ x. refl;
  size = refl;
  parts = λ l h. h;
  limit = refl;
  ring = ring;
  scaling = scaling;
}
