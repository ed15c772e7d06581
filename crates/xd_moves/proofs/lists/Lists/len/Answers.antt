use Rattle.std.proofs.Common.{ap, length, sym, ◌∙◌}
use Rattle.xd_moves.proofs.ListLemmas.{length_items}
use Rattle.xd_moves.proofs.lists.Lists.len.Goals as goal

pub returns-clause-count : goal.returns-clause-count
returns-clause-count c = c.len.ensures.len ∙ sym (length_items c.self.inside.lists.keys) ∙ ap length c.self.view_is
