-- Binary digits of a number, and powers by the digits of the exponent.
use Rattle.std.proofs.Common.{◌≡◌, ℕ, suc, ◌+◌, ◌-◌, ◌*◌, ◌/◌, ◌%◌, ◌^◌, ◌<◌, ◌≤◌, sym, ap, ◌∙◌, subst, ap₂, add-one, arith}
use Prim.Native.Nat as N
use native.Mathlib.Nat.{pow-succ', div-add-mod}
use lib.Count.{count_leading_zeros}
use Rattle.std.proofs.lemmas.Nat.{leading_length, shr-shr}
use Rattle.algebra.specs.Ring.{Ops, Laws, power}
use Rattle.algebra.proofs.Powers as P

-- a power of two of which the double is at most n doubled and one more is at most n
half_power : (m n : ℕ) → 2 ^ m ≤ 2 * n + 1 → 0 < m → 2 ^ (m - 1) ≤ n
half_power N.zero n h pos = absurd (omega arith)
half_power (suc m) n h pos =
    let e : suc m - 1 ≡ m = omega arith in
    let double : 2 ^ suc m ≡ 2 * 2 ^ m = pow-succ' 2 m in
    subst (λ t. 2 ^ t ≤ n) (sym e) (omega (arith, double))

-- how many binary digits a number of at most k digits has
pub record Length (k n r : ℕ) : Type 0 where
  pub few : r ≤ k
  pub above : n < 2 ^ r
  pub least : 0 < r → 2 ^ (r - 1) ≤ n

pub length_by_zeros : (k n : ℕ) → n < 2 ^ k → Length k n (k - count_leading_zeros k n)
length_by_zeros k n h =
    let l = leading_length k n h in
    let e : l.0 ≡ k - count_leading_zeros k n = omega (arith, l.1) in
    subst (Length k n) e (record { few = omega (arith, l.1); above = l.2; least = half_power l.0 n l.3 })

module _ {A : Type 0} (o : Ops A) (L : Laws o) where
  -- the last binary digit of the exponent, and the others at the square
  pub power_halve : (x : A) (q : ℕ) → power o x q ≡ o.mul (power o x (q % 2)) (power o (o.mul x x) (q / 2))
  power_halve x q =
      let split : q ≡ q % 2 + 2 * (q / 2) = omega (arith, div-add-mod q 2) in
      ap (power o x) split ∙ P.power-add o L x (q % 2) (2 * (q / 2))
      ∙ ap (o.mul (power o x (q % 2))) (P.power-mul o L x 2 (q / 2) ∙ ap (λ t. power o t (q / 2)) (P.power_two o L x))

  -- a step of squaring and multiplying: the digit b goes into the product p, the others stay
  pub power_step : (p x : A) (q b : ℕ) → q % 2 ≡ b → o.mul p (power o x q) ≡ o.mul (o.mul p (power o x b)) (power o (o.mul x x) (q / 2))
  power_step p x q b e =
      ap (o.mul p) (power_halve x q ∙ ap (λ t. o.mul (power o x t) (power o (o.mul x x) (q / 2))) e)
      ∙ sym (L.mul_assoc p (power o x b) (power o (o.mul x x) (q / 2)))

  -- a turn of the loop: what is done times what is left stays the same
  pub power_turn : (p p' x x' all : A) (e j b : ℕ) → o.mul p (power o x (e / 2 ^ j)) ≡ all → e / 2 ^ j % 2 ≡ b
      → p' ≡ o.mul p (power o x b) → x' ≡ o.mul x x → o.mul p' (power o x' (e / 2 ^ (j + 1))) ≡ all
  power_turn p p' x x' all e j b inv digit p-is x-is =
      ap₂ (λ s t. o.mul s (power o t (e / 2 ^ (j + 1)))) p-is x-is
      ∙ ap (λ t. o.mul (o.mul p (power o x b)) (power o (o.mul x x) t)) (sym (shr-shr e j 1))
      ∙ sym (power_step p x (e / 2 ^ j) b digit) ∙ inv

  -- one factor more
  pub power_next : (s b : A) (i : ℕ) → o.mul (o.mul s (power o b i)) b ≡ o.mul s (power o b (i + 1))
  power_next s b i =
      L.mul_assoc s (power o b i) b
      ∙ ap (o.mul s) (L.mul_comm (power o b i) b ∙ ap (power o b) (sym (add-one i)))
