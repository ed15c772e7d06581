use Rattle.std.proofs.lemmas.Result.{IfOk-weaker}
use Rattle.xd_syntax.proofs.TableRows.{KeepsRows-trans}
use Rattle.xd_parse_trees.proofs.trees.add_element.Goals as goal

pub returns-clause-adds : goal.returns-clause-adds
returns-clause-adds g c =
    IfOk-weaker c.add_part.result _ _
    (λ parts m. record { middle = g.N.Nodes.rows c.to_node.new.nodes; number = g.N.Nodes.at c.in_ok-inside.inside; added = c.in_ok-inside.ensures.added; merges = m })
    c.add_part.ensures.merges

pub returns-in_err-inside-clause-keeps : goal.returns-in_err-inside-clause-keeps
returns-in_err-inside-clause-keeps g c = c.to_node.ensures.keeps

pub returns-clause-keeps : goal.returns-clause-keeps
returns-clause-keeps g c = KeepsRows-trans _ _ _ c.to_node.ensures.keeps c.add_part.ensures.keeps
