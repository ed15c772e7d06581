use Rattle.std.proofs.Common.{◌∷◌, ◌++◌, [], ap, ◌∙◌}
use Rattle.xd_parse_trees.proofs.queue.queue_of.Goals as goal

pub returns : goal.returns
returns g c = c.in_ok-push_back.ensures.items ∙ ap (λ items. items ++ c.args.item ∷ []) c.new-queue.ensures.items
