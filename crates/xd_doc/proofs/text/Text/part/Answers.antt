use Rattle.xd_doc.proofs.TextLemmas.{part_of_shared}
use Rattle.xd_doc.proofs.text.Text.part.Goals as goal

pub returns : goal.returns
returns c = (part_of_shared _ _ c.args.self.now c.self.inside.start c.self.inside.end _ _ c.in_ok-block.ensures.cases c.self.invariant c.self.view_is c.requires.order c.requires.start_boundary c.requires.end_boundary).0

pub invariant_of-result : goal.invariant_of-result
invariant_of-result c = (part_of_shared _ _ c.args.self.now c.self.inside.start c.self.inside.end _ _ c.in_ok-block.ensures.cases c.self.invariant c.self.view_is c.requires.order c.requires.start_boundary c.requires.end_boundary).1
