-- What follows from the laws of a commutative ring.
use mathlib.Core.Path.{◌≡◌, sym, ◌∙◌, ap, ap₂}
use Rattle.algebra.specs.Ring.{Ops, Laws}

module _ {A : Type 0} (o : Ops A) (L : Laws o) where
  infixl 60 ◌⊕◌
  infixl 70 ◌⊗◌
  open o use {add as ◌⊕◌, mul as ◌⊗◌, neg as ⊖, zero as 𝟘, one as 𝟙}
  open L use {add_assoc, add_comm, add-zero, add-neg, mul_assoc, mul_comm, mul-one, mul-add}

  pub zero-add : (x : A) → 𝟘 ⊕ x ≡ x
  zero-add x = add_comm 𝟘 x ∙ add-zero x

  pub one-mul : (x : A) → 𝟙 ⊗ x ≡ x
  one-mul x = mul_comm 𝟙 x ∙ mul-one x

  pub add-mul : (x y z : A) → (x ⊕ y) ⊗ z ≡ x ⊗ z ⊕ y ⊗ z
  add-mul x y z = mul_comm (x ⊕ y) z ∙ mul-add z x y ∙ ap₂ ◌⊕◌ (mul_comm z x) (mul_comm z y)

  -- x + y = 0 gives y = -x
  pub neg_unique : (x y : A) → x ⊕ y ≡ 𝟘 → y ≡ ⊖ x
  neg_unique x y e =
      sym (zero-add y) ∙ ap (λ z. z ⊕ y) (sym (add-neg x) ∙ add_comm x (⊖ x)) ∙ add_assoc (⊖ x) x y
      ∙ ap (λ z. ⊖ x ⊕ z) e ∙ add-zero (⊖ x)

  -- x - y = 0 gives x = y
  pub sub-zero : (x y : A) → x ⊕ ⊖ y ≡ 𝟘 → x ≡ y
  sub-zero x y e =
      sym (add-zero x) ∙ ap (λ z. x ⊕ z) (sym (add-neg y) ∙ add_comm y (⊖ y)) ∙ sym (add_assoc x (⊖ y) y)
      ∙ ap (λ z. z ⊕ y) e ∙ zero-add y

  -- x + x = x gives x = 0
  pub idem_zero : (x : A) → x ⊕ x ≡ x → x ≡ 𝟘
  idem_zero x e =
      sym (add-zero x) ∙ ap (λ z. x ⊕ z) (sym (add-neg x)) ∙ sym (add_assoc x x (⊖ x))
      ∙ ap (λ z. z ⊕ ⊖ x) e ∙ add-neg x

  pub mul-zero : (x : A) → x ⊗ 𝟘 ≡ 𝟘
  mul-zero x = idem_zero (x ⊗ 𝟘) (sym (mul-add x 𝟘 𝟘) ∙ ap (λ z. x ⊗ z) (add-zero 𝟘))

  pub zero-mul : (x : A) → 𝟘 ⊗ x ≡ 𝟘
  zero-mul x = mul_comm 𝟘 x ∙ mul-zero x

  pub neg-zero : ⊖ 𝟘 ≡ 𝟘
  neg-zero = sym (neg_unique 𝟘 𝟘 (add-zero 𝟘))

  pub neg-neg : (x : A) → ⊖ (⊖ x) ≡ x
  neg-neg x = sym (neg_unique (⊖ x) x (add_comm (⊖ x) x ∙ add-neg x))

  pub mul-neg : (x y : A) → x ⊗ ⊖ y ≡ ⊖ (x ⊗ y)
  mul-neg x y = neg_unique (x ⊗ y) (x ⊗ ⊖ y) (sym (mul-add x y (⊖ y)) ∙ ap (λ z. x ⊗ z) (add-neg y) ∙ mul-zero x)

  pub neg-mul : (x y : A) → ⊖ x ⊗ y ≡ ⊖ (x ⊗ y)
  neg-mul x y = mul_comm (⊖ x) y ∙ mul-neg y x ∙ ap ⊖ (mul_comm y x)

  -- (a + b) + (c + d) = (a + c) + (b + d)
  pub swap : (a b c d : A) → (a ⊕ b) ⊕ (c ⊕ d) ≡ (a ⊕ c) ⊕ (b ⊕ d)
  swap a b c d =
      add_assoc a b (c ⊕ d) ∙ ap (λ z. a ⊕ z) (sym (add_assoc b c d) ∙ ap (λ z. z ⊕ d) (add_comm b c) ∙ add_assoc c b d)
      ∙ sym (add_assoc a c (b ⊕ d))

  pub mul_swap : (a b c d : A) → (a ⊗ b) ⊗ (c ⊗ d) ≡ (a ⊗ c) ⊗ (b ⊗ d)
  mul_swap a b c d =
      mul_assoc a b (c ⊗ d) ∙ ap (λ z. a ⊗ z) (sym (mul_assoc b c d) ∙ ap (λ z. z ⊗ d) (mul_comm b c) ∙ mul_assoc c b d)
      ∙ sym (mul_assoc a c (b ⊗ d))

  pub neg-add : (x y : A) → ⊖ (x ⊕ y) ≡ ⊖ x ⊕ ⊖ y
  neg-add x y = sym (neg_unique (x ⊕ y) (⊖ x ⊕ ⊖ y) (swap x y (⊖ x) (⊖ y) ∙ ap₂ ◌⊕◌ (add-neg x) (add-neg y) ∙ add-zero 𝟘))

  -- a + (b + c) = b + (a + c)
  pub add_left_comm : (a b c : A) → a ⊕ (b ⊕ c) ≡ b ⊕ (a ⊕ c)
  add_left_comm a b c = sym (add_assoc a b c) ∙ ap (λ z. z ⊕ c) (add_comm a b) ∙ add_assoc b a c

  pub mul_left_comm : (a b c : A) → a ⊗ (b ⊗ c) ≡ b ⊗ (a ⊗ c)
  mul_left_comm a b c = sym (mul_assoc a b c) ∙ ap (λ z. z ⊗ c) (mul_comm a b) ∙ mul_assoc b a c

  -- x + y = x + z gives y = z
  pub add_cancel : (x y z : A) → x ⊕ y ≡ x ⊕ z → y ≡ z
  add_cancel x y z e = sym (back y) ∙ ap (λ t. ⊖ x ⊕ t) e ∙ back z
    where
      back : (t : A) → ⊖ x ⊕ (x ⊕ t) ≡ t
      back t = sym (add_assoc (⊖ x) x t) ∙ ap (λ u. u ⊕ t) (add_comm (⊖ x) x ∙ add-neg x) ∙ zero-add t
