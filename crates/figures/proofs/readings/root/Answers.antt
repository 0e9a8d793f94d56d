use Rattle.std.proofs.Common.{refl}
use Rattle.figures.proofs.readings.root.Goals as goal

pub returns : goal.returns
returns c = rw (c.new.ensures, c.from-zero.ensures, c.from.ensures) refl
