use Rattle.std.proofs.Common.{◌≡◌, suc, ◌+◌, ◌*◌, ◌/◌, ◌%◌, ◌<◌, ◌≤◌, length, take, drop, refl, ap, ◌∙◌, subst, arith, inl, rules}
use Rattle.std.proofs.Math.Nat as Nat
use Rattle.extensions.specs.Tuples.{each}
use Rattle.extensions.proofs.Written.{written_more}
use Rattle.extensions.proofs.Cuts.{part_within, joined_parts_list}
use Rattle.encoding.specs.Bytes.{encoding, RefusedBytes}
use Rattle.encoding.proofs.Numbers.{bytes_joined}
use Rattle.encoding.proofs.Parts.{whole_parts, part_length, uneven, refused_part}
use Rattle.encoding.proofs.elements.ElementEncoded.decode.Goals as goal

pub returns-then-bytes-degree-ne0 : goal.returns-then-bytes-degree-ne0
returns-then-bytes-degree-ne0 g c =
    let s = g.S.System in
    let d = g.V.Coefficients.d in
    inl (
      uneven d s.sys g.met.S.System.lawful (g.R.Rule.product (suc d) s.sys.Elem s.sys.ops s.mean) c.args.bytes.now
          (λ e. c.if-bytes-degree-ne0.true (ap (λ n. length c.args.bytes.now % n) c.degree-degree.ensures ∙ e)),
      refl,
    )

pub returns-in_err-decode : goal.returns-in_err-decode
returns-in_err-decode g c =
    let s = g.S.System in
    let x = g.V.Coefficients in
    let n = c.degree-degree.result in
    let l = c.args.bytes.now in
    let p = length l / n in
    let k = c.loop-k.k in
    let len = whole_parts n (length l) c.if-bytes-degree-ne0.false in
    let within : k * p + p ≤ length l = part_within n p k (length l) c.loop-k-test.true len in
    let long : length (take p (drop (k * p) l)) ≡ p = part_length p k l within in
    let lt : k < suc x.d = omega (arith, c.degree-degree.ensures, c.loop-k-test.true) in
    let refused = refused_part x.d s.sys g.met.S.System.lawful (g.R.Rule.product (suc x.d) s.sys.Elem s.sys.ops s.mean) l p k
    (len ∙ ap (λ m. m * p) c.degree-degree.ensures) lt long c.in_err-decode.field-0.0
    (subst (λ m. RefusedBytes s.sys (take m (drop (k * p) l)) c.in_err-decode.field-0.0) (Nat.add-sub_cancel_left (k * p) p) c.in_err-decode.ensures) in
    search rules

pub loop-k-preserved : goal.loop-k-preserved
loop-k-preserved g c =
    let s = g.S.System in
    let x = g.V.Coefficients in
    let p = length c.args.bytes.now / c.degree-degree.result in
    let k = c.loop-k.k in
    let lt : k < suc x.d = omega (arith, c.degree-degree.ensures, c.loop-k-test.true) in
    written_more s.mean s.sys.ops.zero (suc x.d) (λ j y. encoding s.sys y ≡ take p (drop (j * p) c.args.bytes.now))
    (x.tuple c.loop-k.res.value) (x.tuple c.set_coefficient.new.self.value) k c.in_ok-decode.field-0 c.set_coefficient.ensures lt
    c.loop-k.invariant (c.in_ok-decode.ensures ∙ ap (λ n. take n (drop (k * p) c.args.bytes.now)) (Nat.add-sub_cancel_left (k * p) p))

pub returns : goal.returns
returns g c =
    let s = g.S.System in
    let x = g.V.Coefficients in
    let n = c.degree-degree.result in
    let l = c.args.bytes.now in
    let t = each (suc x.d) s.mean (x.tuple c.loop-k.res.value) in
    let len = whole_parts n (length l) c.if-bytes-degree-ne0.false ∙ ap (λ m. m * (length l / n)) c.degree-degree.ensures in
    bytes_joined s.sys.list (suc x.d) t
    ∙ joined_parts_list (encoding s.sys) s.sys.ops.zero (length l / n) (suc x.d) t l len
    (λ k h. c.loop-k.invariant k (omega (arith, c.degree-degree.ensures, c.loop-k-test.false)))
