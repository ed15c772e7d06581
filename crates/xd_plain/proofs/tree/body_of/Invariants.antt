use Rattle.std.proofs.Common.{◌≡◌, drop}
use Rattle.xd_syntax.specs.Tree.{body}
use Rattle.xd_plain.specs.PlainTrees.{definitions_of}
use Rattle.xd_plain.proofs.tree.body_of.Given as goal

abbrev pub invariant-loop-definition : goal.invariant-loop-definition
invariant-loop-definition l = body (definitions_of l.definitions) l.name ≡ body (definitions_of (drop l.definition-index l.definitions)) l.name
