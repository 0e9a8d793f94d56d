use Rattle.std.proofs.Common.{◌≡◌, suc, ◌+◌, ◌-◌, ◌*◌, ◌/◌, ◌%◌, ◌<◌, ◌≤◌, length, take, drop, refl, sym, ap, ◌∙◌, ⊎_elim, arith, rules}
use Rattle.std.proofs.Math.Nat as Nat
use Rattle.std.proofs.lemmas.Bool.{cases_lt}
use borrow.Rule.Slice.PartMut.{put_mid}
use Rattle.extensions.specs.Extensions.{extension}
use Rattle.extensions.specs.Tuples.{each}
use Rattle.extensions.proofs.Written.{at}
use Rattle.extensions.proofs.Cuts.{part_within, joined_parts_list}
use Rattle.encoding.specs.Bytes.{encoding, WholeLength}
use Rattle.encoding.proofs.Numbers.{bytes_joined}
use Rattle.encoding.proofs.Parts.{whole_parts, part_length, uneven, whole_part, encoded_part, part_kept, part_more}
use Rattle.encoding.proofs.elements.ElementEncoded.encode.Goals as goal

pub returns-then-out-degree-ne0 : goal.returns-then-out-degree-ne0
returns-then-out-degree-ne0 g c =
    let s = g.S.System in
    let d = g.V.Coefficients.d in (
      uneven d s.sys g.met.S.System.lawful (g.R.Rule.product (suc d) s.sys.Elem s.sys.ops s.mean) c.args.out.now
          (λ e. c.if-out-degree-ne0.true (ap (λ n. length c.args.out.now % n) c.degree-degree.ensures ∙ e)),
      refl,
      refl,
    )

pub returns-in_err-encode : goal.returns-in_err-encode
returns-in_err-encode g c =
    let s = g.S.System in
    let x = g.V.Coefficients in
    let lawful = g.met.S.System.lawful in
    let times = g.R.Rule.product (suc x.d) s.sys.Elem s.sys.ops s.mean in
    let n = c.degree-degree.result in
    let old = c.args.out.now in
    let l = c.loop-k.out in
    let p = length old / n in
    let k = c.loop-k.k in
    let len = whole_parts n (length old) c.if-out-degree-ne0.false in
    let now : length l ≡ n * p = c.loop-k.auto.out ∙ len in
    let within : k * p + p ≤ length l = part_within n p k (length l) c.loop-k-test.true now in
    let lt : k < suc x.d = omega (arith, c.degree-degree.ensures, c.loop-k-test.true) in
    let other : p ≡ 4 * s.sys.size → ⊥ =
    λ same. c.in_err-encode.ensures.0 (ap (λ m. length (take m (drop (k * p) l))) (Nat.add-sub_cancel_left (k * p) p) ∙ part_length p k l within ∙ same) in
    let refused : WholeLength (extension x.d s.sys times) old → ⊥ =
    λ whole. other (whole_part x.d s.sys lawful times old p k (len ∙ ap (λ m. m * p) c.degree-degree.ensures) lt whole) in
    let first : k ≡ 0 =
    ⊎_elim
    (λ (h : 0 < k).
    absurd (other (encoded_part s.sys lawful p 0 l (at s.mean s.sys.ops.zero (suc x.d) (x.tuple c.args.self.now.value) 0)
    (part_within n p 0 (length l) (omega (arith, c.loop-k-test.true)) now) (c.loop-k.invariant.0 0 h))))
    (λ (h : k ≤ 0). omega arith)
    (cases_lt 0 k) in
    let kept : put_mid (k * p) (k * p + p - k * p) l c.encode.new.out ≡ old =
    ap (put_mid (k * p) (k * p + p - k * p) l) c.in_err-encode.ensures.2 ∙ part_kept (k * p) (k * p + p - k * p) l ∙ c.loop-k.invariant.1 first in
    search rules

pub loop-k-preserved : goal.loop-k-preserved
loop-k-preserved g c =
    let s = g.S.System in
    let x = g.V.Coefficients in
    let n = c.degree-degree.result in
    let l = c.loop-k.out in
    let p = length c.args.out.now / n in
    let k = c.loop-k.k in
    let len : length l ≡ n * p = c.loop-k.auto.out ∙ whole_parts n (length c.args.out.now) c.if-out-degree-ne0.false in
    let within : k * p + p ≤ length l = part_within n p k (length l) c.loop-k-test.true len in
    let coefficient = at s.mean s.sys.ops.zero (suc x.d) (x.tuple c.args.self.now.value) in
    let long : length c.encode.new.out ≡ p =
    c.encode.auto.out ∙ ap (λ m. length (take m (drop (k * p) l))) (Nat.add-sub_cancel_left (k * p) p) ∙ part_length p k l within in (
      part_more (λ j part. encoding s.sys (coefficient j) ≡ part) p k (k * p + p - k * p) l c.encode.new.out long within
          c.loop-k.invariant.0 (ap (encoding s.sys) (sym c.coefficient.ensures) ∙ sym c.in_ok-encode.ensures),
      (λ (e : k + 1 ≡ 0). absurd (omega (arith, e))),
    )

pub returns : goal.returns
returns g c =
    let s = g.S.System in
    let x = g.V.Coefficients in
    let n = c.degree-degree.result in
    let l = c.loop-k.out in
    let p = length c.args.out.now / n in
    let t = each (suc x.d) s.mean (x.tuple c.args.self.now.value) in
    let len : length l ≡ suc x.d * p =
    c.loop-k.auto.out ∙ whole_parts n (length c.args.out.now) c.if-out-degree-ne0.false ∙ ap (λ m. m * p) c.degree-degree.ensures in
    sym (bytes_joined s.sys.list (suc x.d) t
    ∙ joined_parts_list (encoding s.sys) s.sys.ops.zero p (suc x.d) t l len
    (λ k h. c.loop-k.invariant.0 k (omega (arith, c.degree-degree.ensures, c.loop-k-test.false))))
