use Rattle.std.proofs.Common.{◌≡◌, [], ◌∷◌, length, refl, ap, rules}
use Rattle.bases.specs.Residues.{residues, res}
use Rattle.bases.specs.ResiduesLemmas.{number_multiple}
use Rattle.bases.proofs.Singles.{from_entry}
use Rattle.bases.proofs.residue.ResidueListed.from_list.Goals as goal

pub returns-in-len1 : goal.returns-in-len1
returns-in-len1 g c =
    let m = g.M.Modulus.MODULUS in
    let low = g.M.Modulus.bounds.low in
    let l = c.args.numbers.now in
    let one : length l ≡ 1 = search rules in
    from_entry (residues m low) refl (λ l h. h) (λ n p. ap (λ k. k ∷ []) (number_multiple m low n p)) (λ a. res m low a.value) l one
    c.entry.result c.entry.ensures
