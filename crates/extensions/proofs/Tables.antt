-- Frobenius of a trinomial extension by the table law: it is the value at T1 of the polynomial, and T1 is a root of the modulus, so it keeps sums and products.
use Rattle.std.proofs.Common.{◌≡◌, ℕ, suc, true, false, eqb, List, [], ◌∷◌, ◌++◌, get_or, sym, refl, ap, ◌∙◌, ap₂}
use Prim.Native.Nat as N
use Rattle.algebra.specs.Ring.{Ops, Laws, sub, dot}
use Rattle.algebra.specs.Expr.{Expr, var, 𝟎, 𝟏, ◌⊞◌, ⊟, ◌⊠◌, exprs, eval, same, among}
use Rattle.algebra.proofs.Laws as R
use Rattle.algebra.proofs.Solver.{solve, solve_by}
use Rattle.extensions.specs.Tuples.{Tuple, entries, tabulate, each, both, fill}
use Rattle.extensions.specs.Schoolbook.{coefficient, trinomial}
use Rattle.extensions.specs.Extensions.{extend}
use Rattle.extensions.specs.Conjugates.{repeated, embed, scaled, Conjugation, RowPowers, TableLaw, table_frobenius}
use Rattle.extensions.proofs.Inverses.{scaled-fill}
use Rattle.extensions.proofs.Products.{trinomial_laws, trinomial_scales}
use Rattle.extensions.proofs.Tuples.{vars, solves, both-fill}

-- the value of a polynomial of five coefficients at t
abbrev value_at : {E : Type 0} → Ops E → E → Tuple 5 E → E
value_at o t c =
    o.add c.0
    (o.add (o.mul t c.1.0)
    (o.add (o.mul (o.mul t t) c.1.1.0)
    (o.add (o.mul (o.mul (o.mul t t) t) c.1.1.1.0) (o.mul (o.mul (o.mul (o.mul t t) t) t) c.1.1.1.1.0))))

-- what stands before t^5 + t² - 1 in the product of two values
abbrev over : {E : Type 0} → Ops E → E → Tuple 5 E → Tuple 5 E → E
over o t a b =
    let c = coefficient o (entries 5 a) (entries 5 b) in
    o.add (o.add (o.add (c 5) (o.mul (c 6) t)) (o.mul (c 7) (o.mul t t))) (o.mul (c 8) (o.add (o.mul (o.mul t t) t) (o.neg o.one)))

-- X itself
abbrev pub generator : {A : Type 0} → Ops A → Tuple 5 A
generator o = (o.zero, (o.one, (o.zero, (o.zero, (o.zero, tt)))))

fifth : {E : Type 0} → Ops E → E → E
fifth o t = o.mul (o.mul (o.mul (o.mul t t) t) t) t

-- in every ring, the value at a root of X^5 + X² - 1 keeps the product
value-mul : {E : Type 0} (o : Ops E) → Laws o → (t : E) (a b : Tuple 5 E) → o.add (fifth o t) (o.mul t t) ≡ o.one
    → o.mul (value_at o t a) (value_at o t b) ≡ value_at o t (trinomial o a b)
unfolding same fifth
value-mul o L t a b e =
    let x = vars 5 1 in
    let y = vars 5 6 in
    solve_by o L (among o (t ∷ (entries 5 a ++ entries 5 b)))
    (fifth exprs (var 0) ⊞ var 0 ⊠ var 0) 𝟏 (over exprs (var 0) x y)
    (value_at exprs (var 0) x ⊠ value_at exprs (var 0) y) (value_at exprs (var 0) (trinomial exprs x y)) e tt

module _ {A : Type 0} (o : Ops A) (L : Laws o) where
  abbrev ext : Ops (Tuple 5 A)
  ext = extend 4 o (trinomial o)

  -- the layer below lies in the extension with its operations
  neg-fill : (n : ℕ) → each n o.neg (fill n o.zero) ≡ fill n o.zero
  neg-fill N.zero = refl
  neg-fill (suc n) = λ i. (R.neg-zero o L i, neg-fill n i)

  embed-mul : (x y : A) → trinomial o (embed 4 o x) (embed 4 o y) ≡ embed 4 o (o.mul x y)
  embed-mul x y = trinomial_scales o L (embed 4 o x) y ∙ (λ i. (o.mul x y, scaled-fill o L 4 y i))

  embed-eval : (env : ℕ → A) (e : Expr) → embed 4 o (eval o env e) ≡ eval ext (λ i. embed 4 o (env i)) e
  embed-eval env (var i) = refl
  embed-eval env 𝟎 = refl
  embed-eval env 𝟏 = refl
  embed-eval env (a ⊞ b) =
      (λ i. (o.add (eval o env a) (eval o env b), sym (both-fill o.add o.zero L.add-zero 4 (fill 4 o.zero)) i))
      ∙ ap₂ ext.add (embed-eval env a) (embed-eval env b)
  embed-eval env (⊟ a) = (λ i. (o.neg (eval o env a), sym (neg-fill 4) i)) ∙ ap ext.neg (embed-eval env a)
  embed-eval env (a ⊠ b) = sym (embed-mul (eval o env a) (eval o env b)) ∙ ap₂ (trinomial o) (embed-eval env a) (embed-eval env b)

  -- the product of polynomials with coefficients from below
  embed-trinomial : (a b : Tuple 5 A) → each 5 (embed 4 o) (trinomial o a b) ≡ trinomial ext (each 5 (embed 4 o) a) (each 5 (embed 4 o) b)
  embed-trinomial a b =
      let env : ℕ → A = among o (entries 5 a ++ entries 5 b) in
      let p : Tuple 5 Expr = trinomial exprs (vars 5 0) (vars 5 5) in
      λ i. (embed-eval env p.0 i, (embed-eval env p.1.0 i, (embed-eval env p.1.1.0 i, (embed-eval env p.1.1.1.0 i, (embed-eval env p.1.1.1.1.0 i, tt)))))

  module _ (t : Tuple 4 (Tuple 5 A)) (law : RowPowers o t) where
    abbrev φ : Tuple 5 A → Tuple 5 A
    φ = table_frobenius o t

    -- Frobenius is the value at T1
    is_value : (a : Tuple 5 A) → φ a ≡ value_at ext t.0 (each 5 (embed 4 o) a)
    is_value a =
        let row : (r s : Tuple 5 A) (x : A) → r ≡ s → scaled 5 o x r ≡ trinomial o s (embed 4 o x) = λ r s x e. ap (scaled 5 o x) e ∙ sym (trinomial_scales o L s x) in
        let t2 = law.second in
        let t3 = law.third ∙ ap (λ r. trinomial o r t.0) t2 in
        let t4 = law.fourth ∙ ap (λ r. trinomial o r t.0) t3 in
        ap (ext.add (embed 4 o a.0))
        (ap₂ ext.add (row t.0 t.0 a.1.0 refl)
        (ap₂ ext.add (row t.1.0 _ a.1.1.0 t2)
        (ap₂ ext.add (row t.1.1.0 _ a.1.1.1.0 t3) (row t.1.1.1.0 _ a.1.1.1.1.0 t4))))

    root : ext.add (fifth ext t.0) (ext.mul t.0 t.0) ≡ ext.one
    unfolding fifth
    root =
        let t2 = law.second in
        let t3 = law.third ∙ ap (λ r. trinomial o r t.0) t2 in
        let t4 = law.fourth ∙ ap (λ r. trinomial o r t.0) t3 in
        ap₂ (λ r s. ext.add (trinomial o r t.0) s) (sym t4) (sym t2) ∙ law.equation

    table_mul : (a b : Tuple 5 A) → φ (trinomial o a b) ≡ trinomial o (φ a) (φ b)
    table_mul a b =
        is_value (trinomial o a b) ∙ ap (value_at ext t.0) (embed-trinomial a b)
        ∙ sym (value-mul ext (trinomial_laws o L) t.0 (each 5 (embed 4 o) a) (each 5 (embed 4 o) b) root)
        ∙ sym (ap₂ (trinomial o) (is_value a) (is_value b))

    abbrev rows : List A
    rows = entries 5 t.0 ++ (entries 5 t.1.0 ++ (entries 5 t.1.1.0 ++ entries 5 t.1.1.1.0))

    abbrev table : Tuple 4 (Tuple 5 Expr)
    table = (vars 5 0, (vars 5 5, (vars 5 10, (vars 5 15, tt))))

    table_add : (a b : Tuple 5 A) → φ (both 5 o.add a b) ≡ both 5 o.add (φ a) (φ b)
    unfolding same
    table_add a b =
        solves o L (among o (rows ++ (entries 5 a ++ entries 5 b))) 5 (table_frobenius exprs table (both 5 ◌⊞◌ (vars 5 20) (vars 5 25)))
        (both 5 ◌⊞◌ (table_frobenius exprs table (vars 5 20)) (table_frobenius exprs table (vars 5 25))) tt

    table_embed : (x : A) → φ (embed 4 o x) ≡ embed 4 o x
    unfolding same
    table_embed x = solves o L (among o (rows ++ (x ∷ []))) 5 (table_frobenius exprs table (embed 4 exprs (var 20))) (embed 4 exprs (var 20)) tt

    -- k applications are hom: they keep values, and leave coefficients from below where they are
    repeated-value : (k : ℕ) (x : Tuple 5 A) (c : Tuple 5 A) → repeated φ k (value_at ext x (each 5 (embed 4 o) c)) ≡ value_at ext (repeated φ k x) (each 5 (embed 4 o) c)
    repeated-value N.zero x c = refl
    repeated-value (suc k) x c = ap φ (repeated-value k x c) ∙ once (repeated φ k x)
      where
        term : (p : Tuple 5 A) (q : A) (r : Tuple 5 A) → φ p ≡ r → φ (ext.mul p (embed 4 o q)) ≡ ext.mul r (embed 4 o q)
        term p q r e = table_mul p (embed 4 o q) ∙ ap₂ ext.mul e (table_embed q)

        once : (y : Tuple 5 A) → φ (value_at ext y (each 5 (embed 4 o) c)) ≡ value_at ext (φ y) (each 5 (embed 4 o) c)
        once y =
            let y2 = table_mul y y in
            let y3 = table_mul (ext.mul y y) y ∙ ap (λ u. ext.mul u (φ y)) y2 in
            let y4 = table_mul (ext.mul (ext.mul y y) y) y ∙ ap (λ u. ext.mul u (φ y)) y3 in
            table_add _ _ ∙ ap₂ ext.add (table_embed c.0)
            (table_add _ _ ∙ ap₂ ext.add (term y c.1.0 (φ y) refl)
            (table_add _ _ ∙ ap₂ ext.add (term (ext.mul y y) c.1.1.0 _ y2)
            (table_add _ _ ∙ ap₂ ext.add (term (ext.mul (ext.mul y y) y) c.1.1.1.0 _ y3)
            (term (ext.mul (ext.mul (ext.mul y y) y) y) c.1.1.1.1.0 _ y4))))

    -- every element is the value at X of its coefficients
    is_polynomial : (a : Tuple 5 A) → value_at ext (generator o) (each 5 (embed 4 o) a) ≡ a
    unfolding same
    is_polynomial a =
        solves o L (among o (entries 5 a)) 5
        (value_at (extend 4 exprs (trinomial exprs)) (generator exprs) (each 5 (embed 4 exprs) (vars 5 0))) (vars 5 0) tt

    -- if five applications give X back, they give every element back
    pub period_by_generator : repeated φ 5 (generator o) ≡ generator o → (a : Tuple 5 A) → repeated φ 5 a ≡ a
    period_by_generator e a =
        ap (repeated φ 5) (sym (is_polynomial a)) ∙ repeated-value 5 (generator o) a ∙ ap (λ x. value_at ext x (each 5 (embed 4 o) a)) e ∙ is_polynomial a

    pub table_conjugation : TableLaw o t → Conjugation 4 o (trinomial o) φ
    table_conjugation whole = record {
      sums = table_add;
      products = table_mul;
      period = whole.period;
      below = table_embed;
      only_below = λ a e. (λ i. (a.0, whole.fixed a e i));
    }

-- what a row of numbers n makes of the table: at place k the total of n_j (T_k's coefficient j, less one at j = k)
abbrev pub combined : {A : Type 0} → Ops A → Tuple 4 (Tuple 5 A) → Tuple 5 A → Tuple 4 A
combined o t n =
    let total = λ (x : Tuple 5 _). dot o (entries 5 n) (entries 5 x) in
    let less = λ (x : Tuple 5 _) (k : ℕ). tabulate 5 (λ j. sub o (get_or (entries 5 x) j o.zero) (elim (eqb j k) [ true ↦ o.one | false ↦ o.zero ])) in
    (total (less t.0 1), (total (less t.1.0 2), (total (less t.1.1.0 3), (total (less t.1.1.1.0 4), tt))))

module _ {A : Type 0} (o : Ops A) (L : Laws o) (t : Tuple 4 (Tuple 5 A)) where
  -- a row of numbers on what Frobenius changes is the combined row on the coefficients above power 0
  combine : (n a : Tuple 5 A) → dot o (entries 5 n) (entries 5 (both 5 (sub o) (table_frobenius o t a) a)) ≡ dot o (entries 4 (combined o t n)) (entries 4 a.1)
  unfolding same
  combine n a =
      let T : Tuple 4 (Tuple 5 Expr) = (vars 5 0, (vars 5 5, (vars 5 10, (vars 5 15, tt)))) in
      let x : Tuple 5 Expr = vars 5 20 in
      let m : Tuple 5 Expr = vars 5 25 in
      solve o L (among o (entries 5 t.0 ++ (entries 5 t.1.0 ++ (entries 5 t.1.1.0 ++ (entries 5 t.1.1.1.0 ++ (entries 5 a ++ entries 5 n))))))
      (dot exprs (entries 5 m) (entries 5 (both 5 (sub exprs) (table_frobenius exprs T x) x))) (dot exprs (entries 4 (combined exprs T m)) (entries 4 x.1)) tt

  nothing : (n a : Tuple 5 A) → dot o (entries 5 n) (entries 5 (both 5 (sub o) a a)) ≡ o.zero
  unfolding same
  nothing n a = solve o L (among o (entries 5 a ++ entries 5 n)) (dot exprs (entries 5 (vars 5 5)) (entries 5 (both 5 (sub exprs) (vars 5 0) (vars 5 0)))) 𝟎 tt

  -- an element that Frobenius leaves where it is has the combined row's total zero
  vanishes : (n a : Tuple 5 A) (u : Tuple 4 A) → combined o t n ≡ u → table_frobenius o t a ≡ a → dot o (entries 4 u) (entries 4 a.1) ≡ o.zero
  vanishes n a u c e =
      ap (λ v. dot o (entries 4 v) (entries 4 a.1)) (sym c) ∙ sym (combine n a)
      ∙ ap (λ b. dot o (entries 5 n) (entries 5 (both 5 (sub o) b a))) e ∙ nothing n a

  -- four rows that single out the coefficients above power 0 show that only elements of the layer below are left where they are
  pub fixed_by_rows : (n1 n2 n3 n4 : Tuple 5 A)
      → combined o t n1 ≡ (o.one, (o.zero, (o.zero, (o.zero, tt))))
      → combined o t n2 ≡ (o.zero, (o.one, (o.zero, (o.zero, tt))))
      → combined o t n3 ≡ (o.zero, (o.zero, (o.one, (o.zero, tt))))
      → combined o t n4 ≡ (o.zero, (o.zero, (o.zero, (o.one, tt))))
      → (a : Tuple 5 A) → table_frobenius o t a ≡ a → a.1 ≡ fill 4 o.zero
  unfolding same
  fixed_by_rows n1 n2 n3 n4 c1 c2 c3 c4 a e =
      let env : ℕ → A = among o (entries 4 a.1) in
      let x : Tuple 4 Expr = vars 4 0 in
      λ i. (
        (sym (solve o L env (dot exprs (𝟏 ∷ 𝟎 ∷ 𝟎 ∷ 𝟎 ∷ []) (entries 4 x)) (var 0) tt) ∙ vanishes n1 a _ c1 e) i,
        (
          (sym (solve o L env (dot exprs (𝟎 ∷ 𝟏 ∷ 𝟎 ∷ 𝟎 ∷ []) (entries 4 x)) (var 1) tt) ∙ vanishes n2 a _ c2 e) i,
          (
            (sym (solve o L env (dot exprs (𝟎 ∷ 𝟎 ∷ 𝟏 ∷ 𝟎 ∷ []) (entries 4 x)) (var 2) tt) ∙ vanishes n3 a _ c3 e) i,
            ((sym (solve o L env (dot exprs (𝟎 ∷ 𝟎 ∷ 𝟎 ∷ 𝟏 ∷ []) (entries 4 x)) (var 3) tt) ∙ vanishes n4 a _ c4 e) i, tt),
          ),
        ),
      )
