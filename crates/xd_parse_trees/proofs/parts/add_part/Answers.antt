use Rattle.xd_parse_trees.specs.Nodes.{shape}
use Rattle.xd_parse_trees.proofs.StandLemmas.{part_added}
use Rattle.xd_parse_trees.proofs.parts.add_part.Goals as goal

pub returns-clause-merges : goal.returns-clause-merges
returns-clause-merges g c = part_added _ _ c.args.place (shape g.N.Nodes.at c.args.form) (g.N.Nodes.at c.in_ok-part.part) c.requires.alone c.in_ok-part.ensures.added
