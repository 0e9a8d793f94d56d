use Rattle.std.proofs.Common.{vec_items}
use Rattle.calculator.specs.Calls.{command_shown}
use Rattle.calculator.proofs.respond.respond.Goals as goal

pub returns-in-Ok-evaluate : goal.returns-in-Ok-evaluate
returns-in-Ok-evaluate c = (command_shown vec_items c.in-Ok.command, c.in-Ok.ensures, c.in-Ok-evaluate.ensures)

pub returns-in-Err-Refused : goal.returns-in-Err-Refused
returns-in-Err-Refused c = (command_shown vec_items c.in-Ok.command, c.in-Ok.ensures, rw c.in-Err-Refused.field-0-is at c.in-Err-Refused.ensures)
