use Rattle.std.proofs.Common.{◌-◌, List, length, drop, ap, ◌∙◌}
use Rattle.std.specs.Prelude.{reverse}
use Rattle.xd_check_steps.specs.declared.variables.Variable.{Variable}
use Rattle.xd_check_steps.proofs.Newest.{reverse_front}
use Rattle.xd_check_steps.proofs.variables.Variables.truncate.Goals as goal

pub returns : goal.returns
returns c =
    let xs : List Variable = c.self.inside.variables.items in
    ap reverse c.truncate.ensures.items ∙ reverse_front xs c.args.count ∙ ap (λ (vs : List Variable). drop (length vs - c.args.count) vs) c.self.view_is
