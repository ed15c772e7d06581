use Rattle.std.proofs.Common.{◌≡◌, ◌++◌, length}
use Rattle.xd_doc.specs.Document.{escaped_all}
use Rattle.xd_proof.proofs.quotes.read_quoted.Given as goal

abbrev pub invariant-loop-character : goal.invariant-loop-character
invariant-loop-character l = l.bytes ≡ escaped_all l.made.items ++ l.left

abbrev pub decreases-loop-character : goal.decreases-loop-character
decreases-loop-character l = length l.left
