-- Number systems. A system says what its elements are, how they are added and multiplied, and which list of whole numbers each of them means.
use Rattle.std.specs.Prelude.{◌≡◌, ℕ, ◌<◌, ◌≤◌, List, length}
use Rattle.algebra.specs.Ring.{Ops, Laws, multiple}

pub record Sys : Type 1 where
  -- the elements, with zero, one, sum, negative and product
  pub Elem : Type 0
  pub ops : Ops Elem
  -- the list of whole numbers that an element means, and its length
  pub list : Elem → List ℕ
  pub size : ℕ
  -- which lists are elements
  pub IsElement : List ℕ → Type 0
  -- from this number on an entry is refused
  pub limit : ℕ

-- The laws of a number system. Zero divisors are allowed.
pub record Lawful (s : Sys) : Type 0 where
  pub ring : Laws s.ops
  pub one_not_zero : s.ops.one ≡ s.ops.zero → ⊥
  -- elements and the lists that are elements are the same thing
  pub list_element : (x : s.Elem) → s.IsElement (s.list x)
  pub element_list : (l : List ℕ) → s.IsElement l → (x : s.Elem) × (s.list x ≡ l)
  pub list_injective : (x y : s.Elem) → s.list x ≡ s.list y → x ≡ y
  pub list_size : (x : s.Elem) → length (s.list x) ≡ s.size
  -- entries: n times one, for n below the limit
  pub limit_two : 2 ≤ s.limit
  pub entries_differ : (m n : ℕ) → m < s.limit → n < s.limit → multiple s.ops m ≡ multiple s.ops n → m ≡ n
