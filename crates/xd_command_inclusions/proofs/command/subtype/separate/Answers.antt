use Rattle.std.proofs.Common.{◌<◌, arith, length, subst}
use Rattle.xd_least.specs.Least.{size_limit}
use Rattle.xd_command_inclusions.proofs.command.subtype.separate.Goals as goal

pub returns-clause-size : goal.returns-clause-size
returns-clause-size c = subst (λ w. length w < size_limit) c.text-text.ensures (omega (arith, c.text-text.type_inv))
