use Rattle.std.proofs.Common.{◌≡◌, ◌++◌, drop}
use Rattle.xd_plain.specs.PlainDocuments.{document_of}
use Rattle.xd_plain.specs.PlainFits.{splits_of, behind_element}
use Rattle.xd_plain.proofs.fits.push_behind_element.Given as goal

abbrev pub invariant-loop-split : goal.invariant-loop-split
invariant-loop-split l =
    splits_of l.made.items ++ behind_element l.label (document_of l.content) (splits_of (drop l.split-index l.splits))
    ≡ splits_of l.initial.made.items ++ behind_element l.label (document_of l.content) (splits_of l.splits)
