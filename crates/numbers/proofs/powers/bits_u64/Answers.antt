use Rattle.std.proofs.Common.{arith}
use Rattle.numbers.proofs.Exponents.{length_by_zeros}
use Rattle.numbers.proofs.powers.bits_u64.Goals as goal

pub returns : goal.returns
returns c =
    let l = length_by_zeros 64 c.args.n (omega arith) in
    record { few = l.few; above = l.above; least = l.least }
