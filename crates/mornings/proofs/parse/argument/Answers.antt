use Rattle.std.proofs.Common.{lit<}
use Rattle.std.proofs.lemmas.Str.Pattern.{strip_prefix_char}
use Rattle.mornings.proofs.parse.argument.Goals as goal

pub returns : goal.returns
returns c = strip_prefix_char 32 c.args.rest.now c.strip_prefix.result c.strip_prefix.ensures.cases (lit< tt)
