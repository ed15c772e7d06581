use Rattle.std.proofs.Common.{[], ◌∷◌, ◌++◌, ap, ◌∙◌}
use Rattle.xd_plain.proofs.ways.only.Goals as goal

pub returns : goal.returns
returns c = c.in_ok-push.ensures.items ∙ ap (λ ws. ws ++ c.args.way ∷ []) c.new-ways.ensures.items
