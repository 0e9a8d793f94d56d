-- Frobenius of a binomial extension by the root law: it keeps sums and products, has the degree as its period, and leaves only the layer below where it is.
use Rattle.std.proofs.Common.{◌≡◌, ℕ, suc, ◌+◌, ◌-◌, ◌*◌, ◌/◌, ◌%◌, ◌≤◌, get_or, sym, refl, ap, ◌∙◌, ap₂, arith}
use Prim.Native.Nat as N
use native.Mathlib.Nat as Nat
use Rattle.algebra.specs.Ring.{Ops, Laws, sub, power}
use Rattle.algebra.proofs.Laws as R
use Rattle.algebra.proofs.Powers as P
use Rattle.algebra.proofs.Units.{unit_cancel}
use Rattle.extensions.specs.Tuples.{Tuple, entries, tabulate, both, fill}
use Rattle.extensions.specs.Schoolbook.{sum_to, coefficient, binomial}
use Rattle.extensions.specs.Conjugates.{repeated, embed, Conjugation, RootLaw, root_frobenius_map}
use Rattle.extensions.proofs.Tuples.{get_or-tabulate, tuple_same}

sum_to_same : {A : Type 0} (o : Ops A) (f g : ℕ → A) (k : ℕ) → ((i : ℕ) → i ≤ k → f i ≡ g i) → sum_to o f k ≡ sum_to o g k
sum_to_same o f g N.zero h = h 0 (omega arith)
sum_to_same o f g (suc k) h = ap₂ o.add (sum_to_same o f g k (λ i l. h i (omega arith))) (h (suc k) (omega arith))

module _ {A : Type 0} (o : Ops A) (L : Laws o) (z : A) where
  infixl 60 ◌⊕◌
  infixl 70 ◌⊗◌
  open o use {add as ◌⊕◌, mul as ◌⊗◌, zero as 𝟘, one as 𝟙}

  sum_times : (f : ℕ → A) (x : A) (k : ℕ) → sum_to o (λ i. f i ⊗ x) k ≡ sum_to o f k ⊗ x
  sum_times f x N.zero = refl
  sum_times f x (suc k) = ap (λ t. t ⊕ f (suc k) ⊗ x) (sum_times f x k) ∙ sym (R.add-mul o L (sum_to o f k) (f (suc k)) x)

  abbrev φ : (n : ℕ) → Tuple n A → Tuple n A
  φ n = root_frobenius_map n o z

  -- the coefficients of an image, also beyond the last, where both are zero
  weighted_at : (n : ℕ) (p : ℕ → A) (a : Tuple n A) (i : ℕ) → get_or (entries n (tabulate n (λ j. get_or (entries n a) j 𝟘 ⊗ p j))) i 𝟘 ≡ get_or (entries n a) i 𝟘 ⊗ p i
  weighted_at N.zero p a i = sym (R.zero-mul o L (p i))
  weighted_at (suc n) p a N.zero = refl
  weighted_at (suc n) p a (suc i) = weighted_at n (λ j. p (suc j)) a.1 i

  image_at : (n : ℕ) (a : Tuple n A) (i : ℕ) → get_or (entries n (φ n a)) i 𝟘 ≡ get_or (entries n a) i 𝟘 ⊗ power o z i
  image_at n a i = weighted_at n (power o z) a i

  -- the coefficients of a product of images
  image_coefficient : (n : ℕ) (a b : Tuple n A) (m : ℕ)
      → coefficient o (entries n (φ n a)) (entries n (φ n b)) m ≡ coefficient o (entries n a) (entries n b) m ⊗ power o z m
  image_coefficient n a b m =
      sum_to_same o _ (λ j. (get_or (entries n a) j 𝟘 ⊗ get_or (entries n b) (m - j) 𝟘) ⊗ power o z m) m
      (λ j l.
      let e : j + (m - j) ≡ m = omega arith in
      ap₂ ◌⊗◌ (image_at n a j) (image_at n b (m - j))
      ∙ R.mul_swap o L (get_or (entries n a) j 𝟘) (power o z j) (get_or (entries n b) (m - j) 𝟘) (power o z (m - j))
      ∙ ap (λ t. (get_or (entries n a) j 𝟘 ⊗ get_or (entries n b) (m - j) 𝟘) ⊗ t) (sym (P.power-add o L z j (m - j)) ∙ ap (power o z) e))
      ∙ sum_times (λ j. get_or (entries n a) j 𝟘 ⊗ get_or (entries n b) (m - j) 𝟘) (power o z m) m

  -- k applications multiply coefficient i by (z^i)^k
  repeated_at : (n k : ℕ) (a : Tuple n A) (i : ℕ) → get_or (entries n (repeated (φ n) k a)) i 𝟘 ≡ get_or (entries n a) i 𝟘 ⊗ power o (power o z i) k
  repeated_at n N.zero a i = sym (L.mul-one (get_or (entries n a) i 𝟘))
  repeated_at n (suc k) a i =
      image_at n (repeated (φ n) k a) i ∙ ap (λ t. t ⊗ power o z i) (repeated_at n k a i)
      ∙ L.mul_assoc (get_or (entries n a) i 𝟘) (power o (power o z i) k) (power o z i)
      ∙ ap (λ t. get_or (entries n a) i 𝟘 ⊗ t) (L.mul_comm (power o (power o z i) k) (power o z i))

  module _ (n : ℕ) (law : RootLaw o n z) where
    pub root_mul : (w : A) (a b : Tuple n A) → φ n (binomial n o w a b) ≡ binomial n o w (φ n a) (φ n b)
    root_mul w a b =
        let c = coefficient o (entries n a) (entries n b) in
        tuple_same n (φ n (binomial n o w a b)) (binomial n o w (φ n a) (φ n b)) 𝟘
        (λ i l.
        image_at n (binomial n o w a b) i
        ∙ ap (λ t. t ⊗ power o z i) (get_or-tabulate n (λ k. c k ⊕ w ⊗ c (k + n)) i 𝟘 l)
        ∙ R.add-mul o L (c i) (w ⊗ c (i + n)) (power o z i)
        ∙ ap₂ ◌⊕◌ (sym (image_coefficient n a b i))
        (L.mul_assoc w (c (i + n)) (power o z i)
        ∙ ap (λ t. w ⊗ (c (i + n) ⊗ t)) (sym (P.power-add o L z i n ∙ ap (λ t. power o z i ⊗ t) law.root ∙ L.mul-one (power o z i)))
        ∙ ap (λ t. w ⊗ t) (sym (image_coefficient n a b (i + n))))
        ∙ sym (get_or-tabulate n (λ k. coefficient o (entries n (φ n a)) (entries n (φ n b)) k ⊕ w ⊗ coefficient o (entries n (φ n a)) (entries n (φ n b)) (k + n)) i 𝟘 l))

    -- the degree is a period
    pub root_period : (a : Tuple n A) → repeated (φ n) n a ≡ a
    root_period a =
        tuple_same n (repeated (φ n) n a) a 𝟘
        (λ i l.
        repeated_at n n a i
        ∙ ap (λ t. get_or (entries n a) i 𝟘 ⊗ t)
        (sym (P.power-mul o L z i n) ∙ ap (power o z) (Nat.mul_comm i n) ∙ P.power-mul o L z n i ∙ ap (λ t. power o t i) law.root ∙ P.one_power o L i)
        ∙ L.mul-one (get_or (entries n a) i 𝟘))

  pub root_add : (n : ℕ) (a b : Tuple n A) → φ n (both n o.add a b) ≡ both n o.add (φ n a) (φ n b)
  root_add n a b = weighted_add n (power o z) a b
    where
      weighted_add : (n : ℕ) (p : ℕ → A) (a b : Tuple n A)
          → tabulate n (λ i. get_or (entries n (both n o.add a b)) i 𝟘 ⊗ p i)
          ≡ both n o.add (tabulate n (λ i. get_or (entries n a) i 𝟘 ⊗ p i)) (tabulate n (λ i. get_or (entries n b) i 𝟘 ⊗ p i))
      weighted_add N.zero p a b = refl
      weighted_add (suc n) p a b = λ i. (R.add-mul o L a.0 b.0 (p 0) i, weighted_add n (λ j. p (suc j)) a.1 b.1 i)

  -- the elements of the layer below stay where they are
  pub root_embed : (d : ℕ) (x : A) → φ (suc d) (embed d o x) ≡ embed d o x
  root_embed d x = λ i. (L.mul-one x i, weighted_fill d (λ j. power o z (suc j)) i)
    where
      weighted_fill : (n : ℕ) (p : ℕ → A) → tabulate n (λ i. get_or (entries n (fill n 𝟘)) i 𝟘 ⊗ p i) ≡ fill n 𝟘
      weighted_fill N.zero p = refl
      weighted_fill (suc n) p = λ i. (R.zero-mul o L (p 0) i, weighted_fill n (λ j. p (suc j)) i)

  -- and no others
  pub root_fixed : (d : ℕ) → RootLaw o (suc d) z → (a : Tuple (suc d) A) → φ (suc d) a ≡ a → a.1 ≡ fill d 𝟘
  root_fixed d law a e =
      tuple_same d a.1 (fill d 𝟘) 𝟘
      (λ i l.
      let x = get_or (entries (suc d) a) (suc i) 𝟘 in
      let p = power o z (suc i) in
      let stays : x ⊗ p ≡ x = sym (image_at (suc d) a (suc i)) ∙ ap (λ t. get_or (entries (suc d) t) (suc i) 𝟘) e in
      let nothing : sub o p 𝟙 ⊗ x ≡ 𝟘 =
      R.add-mul o L p (o.neg 𝟙) x
      ∙ ap₂ ◌⊕◌ (L.mul_comm p x ∙ stays) (R.neg-mul o L 𝟙 x ∙ ap o.neg (R.one-mul o L x)) ∙ L.add-neg x in
      unit_cancel o L (sub o p 𝟙) x 𝟘 (law.apart (suc i) (omega arith) (omega arith)) (nothing ∙ sym (R.mul-zero o L (sub o p 𝟙)))
      ∙ sym (get_or-fill d i))
    where
      get_or-fill : (n i : ℕ) → get_or (entries n (fill n 𝟘)) i 𝟘 ≡ 𝟘
      get_or-fill N.zero i = refl
      get_or-fill (suc n) N.zero = refl
      get_or-fill (suc n) (suc i) = get_or-fill n i

  pub root_conjugation : (d : ℕ) → RootLaw o (suc d) z → (w : A) → Conjugation d o (binomial (suc d) o w) (root_frobenius_map (suc d) o z)
  root_conjugation d law w = record {
    sums = root_add (suc d);
    products = root_mul (suc d) law w;
    period = root_period (suc d) law;
    below = root_embed d;
    only_below = λ a e. (λ i. (a.0, root_fixed d law a e i));
  }

  -- k applications are one by the k-th power of the root
  pub root_repeated : (n k : ℕ) (a : Tuple n A) → root_frobenius_map n o (power o z k) a ≡ repeated (root_frobenius_map n o z) k a
  root_repeated n k a =
      tuple_same n (root_frobenius_map n o (power o z k) a) (repeated (φ n) k a) 𝟘
      (λ i l.
      weighted_at n (power o (power o z k)) a i
      ∙ ap (λ t. get_or (entries n a) i 𝟘 ⊗ t) (sym (P.power-mul o L z k i) ∙ ap (power o z) (Nat.mul_comm k i) ∙ P.power-mul o L z i k)
      ∙ sym (repeated_at n k a i))

  -- the exponent of a root counts modulo the degree
  pub root_modulo : (n k : ℕ) → RootLaw o n z → power o z (k % n) ≡ power o z k
  root_modulo n k law =
      sym (ap (power o z) (sym (Nat.div-add-mod k n)) ∙ P.power-add o L z (n * (k / n)) (k % n)
      ∙ ap (λ t. t ⊗ power o z (k % n)) (P.power-mul o L z n (k / n) ∙ ap (λ t. power o t (k / n)) law.root ∙ P.one_power o L (k / n))
      ∙ R.one-mul o L (power o z (k % n)))
