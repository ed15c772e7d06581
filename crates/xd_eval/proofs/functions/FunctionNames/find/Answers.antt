use Rattle.std.proofs.Common.{ap, ◌∙◌}
use Rattle.xd_eval.specs.Functions.{numbered}
use Rattle.xd_eval.proofs.functions.FunctionNames.find.Goals as goal

pub returns : goal.returns
returns c = c.function_at.ensures ∙ ap (numbered c.args.functions.now) c.number.ensures ∙ c.requires c.args.name.now
