use Rattle.bases.specs.Residues.{res}
use Rattle.encoding.proofs.Singles.{from_entry}
use Rattle.encoding.proofs.base_systems.ResidueEncoded.decode.Goals as goal

pub returns : goal.returns
returns g c =
    let m = g.M.Modulus.MODULUS in
    let low = g.M.Modulus.bounds.low in
    from_entry m low (λ a. res m low a.value) c.args.bytes.now c.in_ok-read.field-0 c.in_ok-read.ensures.0 c.in_ok-read.ensures.1
    c.entry.result c.entry.ensures
