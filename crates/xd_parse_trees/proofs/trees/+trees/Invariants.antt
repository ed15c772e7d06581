use Rattle.std.proofs.Common.{◌+◌, ◌*◌, length}
use Rattle.xd_grammar.specs.declared.grammar.Nonterminal.TheVariants as n
use Rattle.xd_parse_trees.specs.Merged.{sequence, alternative}
use Rattle.xd_parse_trees.specs.Pieces.{pieces}
use Rattle.xd_parse_trees.proofs.NodeRows.{IsReadOn}
use Rattle.xd_parse_trees.proofs.trees.+trees.Given as goal

abbrev pub decreases-read_tree : goal.decreases-read_tree
decreases-read_tree g l = 8 * length l.cursor.now + 5

abbrev pub decreases-read_branch : goal.decreases-read_branch
decreases-read_branch g l = 8 * length l.cursor.now + 4

abbrev pub decreases-read_part : goal.decreases-read_part
decreases-read_part g l = 8 * length l.cursor.now + 3

abbrev pub decreases-read_variable : goal.decreases-read_variable
decreases-read_variable g l = 8 * length l.cursor.now + 2

abbrev pub decreases-read_bound : goal.decreases-read_bound
decreases-read_bound g l = 8 * length l.cursor.now + 2

abbrev pub decreases-read_primary : goal.decreases-read_primary
decreases-read_primary g l = 8 * length l.cursor.now + 2

abbrev pub decreases-read_element : goal.decreases-read_element
decreases-read_element g l = 8 * length l.cursor.now + 1

abbrev pub decreases-read_exception : goal.decreases-read_exception
decreases-read_exception g l = 8 * length l.cursor.now + 1

abbrev pub decreases-read_group : goal.decreases-read_group
decreases-read_group g l = 8 * length l.cursor.now + 6

abbrev pub decreases-read_content : goal.decreases-read_content
decreases-read_content g l = 8 * length l.cursor.now + 6

abbrev pub invariant-read_tree-branches : goal.invariant-read_tree-branches
invariant-read_tree-branches g l =
    IsReadOn (n.Alternative g.N.Nodes.sort) (n.MoreBranches g.N.Nodes.sort) alternative l.fn.cursor l.cursor (g.N.Nodes.rows l.fn.nodes) (g.N.Nodes.rows l.nodes) (pieces g.N.Nodes.at l.read)

abbrev pub decreases-read_tree-branches : goal.decreases-read_tree-branches
decreases-read_tree-branches g l = length l.cursor

abbrev pub invariant-read_branch-parts : goal.invariant-read_branch-parts
invariant-read_branch-parts g l =
    IsReadOn (n.Sequence g.N.Nodes.sort) (n.MoreParts g.N.Nodes.sort) sequence l.fn.cursor l.cursor (g.N.Nodes.rows l.fn.nodes) (g.N.Nodes.rows l.nodes) (pieces g.N.Nodes.at l.read)

abbrev pub decreases-read_branch-parts : goal.decreases-read_branch-parts
decreases-read_branch-parts g l = length l.cursor
