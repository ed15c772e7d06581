use Rattle.std.proofs.Common.{◌≡◌, ◌++◌, drop}
use Rattle.xd_plain.specs.PlainDocuments.{document_of}
use Rattle.xd_plain.specs.PlainWays.{ways_of, whole_ways}
use Rattle.xd_plain.proofs.ways.whole_elements.Given as goal

abbrev pub invariant-loop-way : goal.invariant-loop-way
invariant-loop-way l =
    ways_of l.made.items ++ whole_ways l.label (document_of l.content) (document_of l.rest) (ways_of (drop l.way-index l.ways))
    ≡ whole_ways l.label (document_of l.content) (document_of l.rest) (ways_of l.ways)
