use Rattle.figures.proofs.System8.{answers_true}
use Rattle.figures.proofs.readings.not_told_apart.Goals as goal

pub returns : goal.returns
returns c = answers_true _ c.root.ensures c.compare.result c.compare.ensures.refused c.compare.ensures.alike
