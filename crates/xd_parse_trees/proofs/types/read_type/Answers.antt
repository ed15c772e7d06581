use Rattle.std.proofs.lemmas.Result.{IfOk-weaker}
use Rattle.xd_syntax.proofs.TableRows.{KeepsRows-trans}
use Rattle.xd_parse_trees.proofs.NodeRows.{node_read, node_deeper}
use Rattle.xd_parse_trees.proofs.types.read_type.Goals as goal

pub returns-clause-reads : goal.returns-clause-reads
returns-clause-reads c = IfOk-weaker c.to_node.result _ _ (λ id a. node_read _ _ _ _ _ _ _ _ c.in_ok-parts.ensures.reads a) c.to_node.ensures.added

pub returns-clause-no_deeper : goal.returns-clause-no_deeper
returns-clause-no_deeper c = IfOk-weaker c.to_node.result _ _ (λ id a. node_deeper _ _ _ _ _ _ _ _ c.in_ok-parts.ensures.reads a) c.to_node.ensures.added

pub returns-in_err-parts-clause-keeps : goal.returns-in_err-parts-clause-keeps
returns-in_err-parts-clause-keeps c = c.read_tree.ensures.keeps

pub to_node-requires : goal.to_node-requires
to_node-requires c = c.in_ok-parts.ensures.reads.stand

pub returns-clause-keeps : goal.returns-clause-keeps
returns-clause-keeps c = KeepsRows-trans _ _ _ c.read_tree.ensures.keeps c.to_node.ensures.keeps
