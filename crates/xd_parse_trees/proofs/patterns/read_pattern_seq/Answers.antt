use Rattle.std.proofs.lemmas.Result.{IfOk-weaker}
use Rattle.xd_syntax.proofs.TableRows.{KeepsRows-trans}
use Rattle.xd_parse_trees.proofs.NodeRows.{node_read}
use Rattle.xd_parse_trees.proofs.patterns.read_pattern_seq.Goals as goal

pub returns-clause-reads : goal.returns-clause-reads
returns-clause-reads c = IfOk-weaker c.to_node.result _ _ (λ id a. node_read _ _ _ _ _ _ _ _ c.in_ok-parts.ensures.reads a) c.to_node.ensures.added

pub returns-in_err-parts-clause-keeps : goal.returns-in_err-parts-clause-keeps
returns-in_err-parts-clause-keeps c = c.read_branch.ensures.keeps

pub to_node-requires : goal.to_node-requires
to_node-requires c = c.in_ok-parts.ensures.reads.stand

pub returns-clause-keeps : goal.returns-clause-keeps
returns-clause-keeps c = KeepsRows-trans _ _ _ c.read_branch.ensures.keeps c.to_node.ensures.keeps
