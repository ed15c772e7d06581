use Rattle.xd_doc.proofs.Lists.{reverse_push}
use Rattle.xd_check_steps.specs.declared.variables.Variable.{Variable}
use Rattle.std.specs.Prelude.{reverse}
use Rattle.std.proofs.Common.{List, ◌∷◌, ap, ◌∙◌}
use Rattle.xd_check_steps.proofs.variables.Variables.push.Goals as goal

pub returns : goal.returns
returns c =
    let xs : List Variable = c.self.inside.variables.items in
    ap reverse c.in_ok-push.ensures.items ∙ reverse_push xs c.args.variable ∙ ap (λ (vs : List Variable). c.args.variable ∷ vs) c.self.view_is
