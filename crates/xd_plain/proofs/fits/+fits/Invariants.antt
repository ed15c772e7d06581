use Rattle.std.proofs.Common.{◌+◌, ◌*◌, drop}
use Rattle.xd_doc.specs.Document.{size}
use Rattle.xd_meaning.specs.FitsWithin as unfolded
use Rattle.xd_plain.specs.PlainDocuments.{document_of}
use Rattle.xd_plain.specs.PlainTrees.{tree_of, definitions_of}
use Rattle.xd_plain.specs.PlainFits.{splits_of}
use Rattle.xd_plain.proofs.SplitsLemmas.{SomeSplit, Turn, weight, weight_of_name}
use Rattle.xd_plain.proofs.fits.+fits.Given as goal

abbrev pub decreases-is_fitting : goal.decreases-is_fitting
decreases-is_fitting l = 4 * (weight (definitions_of l.definitions.now) l.unfoldings (tree_of l.tree.now) + size (document_of l.document.now))

abbrev pub decreases-is_defined : goal.decreases-is_defined
decreases-is_defined l = 4 * (weight_of_name (definitions_of l.definitions.now) l.unfoldings l.name.now + size (document_of l.document.now)) + 1

abbrev pub decreases-is_one_element : goal.decreases-is_one_element
decreases-is_one_element l = 4 * (weight (definitions_of l.definitions.now) l.unfoldings (tree_of l.content.now) + size (document_of l.document.now)) + 1

abbrev pub decreases-in_two_parts : goal.decreases-in_two_parts
decreases-in_two_parts l = let E = definitions_of l.definitions.now in
    4 * (weight E l.unfoldings (tree_of l.first.now) + weight E l.unfoldings (tree_of l.second.now) + size (document_of l.document.now)) + 1

abbrev pub decreases-in_turns : goal.decreases-in_turns
decreases-in_turns l = 4 * (weight (definitions_of l.definitions.now) l.unfoldings (tree_of l.part.now) + size (document_of l.document.now)) + 1

abbrev pub decreases-in_one_turn_or_more : goal.decreases-in_one_turn_or_more
decreases-in_one_turn_or_more l = 4 * (weight (definitions_of l.definitions.now) l.unfoldings (tree_of l.part.now) + size (document_of l.document.now)) + 2

abbrev pub invariant-in_two_parts-loop-split : goal.invariant-in_two_parts-loop-split
invariant-in_two_parts-loop-split l = let E = definitions_of l.definitions in
    let P = unfolded.FitsWithin E l.unfoldings (tree_of l.first) in
    let Q = unfolded.FitsWithin E l.unfoldings (tree_of l.second) in
    SomeSplit P Q (splits_of l.split-items) → SomeSplit P Q (splits_of (drop l.split-index l.split-items))

abbrev pub invariant-in_turns-loop-split : goal.invariant-in_turns-loop-split
invariant-in_turns-loop-split l = let P = unfolded.FitsWithin (definitions_of l.definitions) l.unfoldings (tree_of l.part) in
    SomeSplit (Turn P) (unfolded.Repeats P) (splits_of l.split-items) → SomeSplit (Turn P) (unfolded.Repeats P) (splits_of (drop l.split-index l.split-items))

abbrev pub invariant-in_one_turn_or_more-loop-split : goal.invariant-in_one_turn_or_more-loop-split
invariant-in_one_turn_or_more-loop-split l = let P = unfolded.FitsWithin (definitions_of l.definitions) l.unfoldings (tree_of l.part) in
    SomeSplit P (unfolded.Repeats P) (splits_of l.split-items) → SomeSplit P (unfolded.Repeats P) (splits_of (drop l.split-index l.split-items))
