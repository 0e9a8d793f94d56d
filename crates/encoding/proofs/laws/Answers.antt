use Rattle.std.proofs.Common.{◌≡◌, ◌*◌, suc, sym, ap, ◌∙◌, subst, ⊎_elim}
use Rattle.encoding.specs.Bytes.{encoding, numbers_of, WholeLength}
use Rattle.encoding.proofs.Numbers.{bytes_length, bytes_joined, read_back}
use Rattle.encoding.proofs.laws.Goals as goal

pub returns : goal.returns
returns g c =
    let s = g.S.System.sys in
    let lawful = g.met.S.System.lawful in
    let narrow = g.met.S.Encoded.narrow in
    let whole : (x : s.Elem) → WholeLength s (encoding s x) = λ x. bytes_length (s.list x) ∙ ap (λ n. 4 * n) (lawful.list_size x) in
    let back : (x : s.Elem) → numbers_of (encoding s x) ≡ s.list x = λ x. read_back (s.list x) (narrow x) in
    record {
      accepted = λ x e. ⊎_elim (λ h. h.0 (whole x)) (λ h. h.1 (subst s.IsElement (sym (back x)) (lawful.list_element x)));
      injective = λ x y e. lawful.list_injective x y (sym (back x) ∙ ap numbers_of e ∙ back y);
      length = whole;
      extensions = λ d times t. bytes_joined s.list (suc d) t;
    }
