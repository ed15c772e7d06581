use Rattle.std.proofs.Common.{◌≡◌, ◌+◌, ◌≤◌, ◌++◌, drop}
use Rattle.xd_syntax.specs.Ways.{ways_within, item_count}
use Rattle.xd_plain.specs.PlainDocuments.{document_of}
use Rattle.xd_plain.specs.PlainTrees.{tree_of, definitions_of}
use Rattle.xd_plain.specs.PlainWays.{ways_of}
use Rattle.xd_plain.proofs.PlainCost.{cost, cost_of_name, element_cost, repetition_cost, then_ways, then_turns, turn_ways, then_cost, then_turns_cost, turn_cost}
use Rattle.xd_plain.proofs.ways.+ways.Given as goal

abbrev pub decreases-ways_within : goal.decreases-ways_within
decreases-ways_within l = cost (definitions_of l.definitions.now) l.unfoldings (tree_of l.pattern.now) (document_of l.document.now)

abbrev pub decreases-in_sequence : goal.decreases-in_sequence
decreases-in_sequence l = let E = definitions_of l.definitions.now in
    let T = tree_of l.first.now in
    let d = document_of l.document.now in
    cost E l.unfoldings T d + then_cost E l.unfoldings (tree_of l.second.now) (ways_within E l.unfoldings T d) + 2

abbrev pub decreases-by_either : goal.decreases-by_either
decreases-by_either l = let E = definitions_of l.definitions.now in
    let d = document_of l.document.now in
    cost E l.unfoldings (tree_of l.left.now) d + cost E l.unfoldings (tree_of l.right.now) d + 1

abbrev pub decreases-one_turn_or_more : goal.decreases-one_turn_or_more
decreases-one_turn_or_more l = let E = definitions_of l.definitions.now in
    let T = tree_of l.part.now in
    let d = document_of l.document.now in
    cost E l.unfoldings T d + then_turns_cost E l.unfoldings T (ways_within E l.unfoldings T d) + 3

abbrev pub decreases-one_or_none : goal.decreases-one_or_none
decreases-one_or_none l = cost (definitions_of l.definitions.now) l.unfoldings (tree_of l.part.now) (document_of l.document.now) + 1

abbrev pub decreases-with_bound : goal.decreases-with_bound
decreases-with_bound l = cost (definitions_of l.definitions.now) l.unfoldings (tree_of l.part.now) (document_of l.document.now) + 1

abbrev pub decreases-defined : goal.decreases-defined
decreases-defined l = cost_of_name (definitions_of l.definitions.now) l.unfoldings l.name.now (document_of l.document.now) + 1

abbrev pub decreases-one_element : goal.decreases-one_element
decreases-one_element l = element_cost (cost (definitions_of l.definitions.now) l.unfoldings (tree_of l.content.now)) (document_of l.document.now)

abbrev pub decreases-each_then : goal.decreases-each_then
decreases-each_then l = then_cost (definitions_of l.definitions.now) l.unfoldings (tree_of l.second.now) (ways_of l.firsts.now) + 1

abbrev pub decreases-each_then_turns : goal.decreases-each_then_turns
decreases-each_then_turns l = then_turns_cost (definitions_of l.definitions.now) l.unfoldings (tree_of l.part.now) (ways_of l.firsts.now) + 2

abbrev pub decreases-turns_within : goal.decreases-turns_within
decreases-turns_within l = repetition_cost (definitions_of l.definitions.now) l.unfoldings (tree_of l.part.now) (item_count (document_of l.counter.now)) (document_of l.document.now)

abbrev pub decreases-one_more_turn : goal.decreases-one_more_turn
decreases-one_more_turn l = let E = definitions_of l.definitions.now in
    let T = tree_of l.part.now in
    let d = document_of l.document.now in
    cost E l.unfoldings T d + turn_cost E l.unfoldings T (item_count (document_of l.counter.now)) d (ways_within E l.unfoldings T d) + 4

abbrev pub decreases-each_turned : goal.decreases-each_turned
decreases-each_turned l = turn_cost (definitions_of l.definitions.now) l.unfoldings (tree_of l.part.now) (item_count (document_of l.counter.now)) (document_of l.document.now) (ways_of l.firsts.now) + 3

abbrev pub decreases-push_turns : goal.decreases-push_turns
decreases-push_turns l = repetition_cost (definitions_of l.definitions.now) l.unfoldings (tree_of l.part.now) (item_count (document_of l.counter.now)) (document_of l.first.now.rest) + 1

abbrev pub invariant-each_then-loop-first : goal.invariant-each_then-loop-first
invariant-each_then-loop-first l = let E = definitions_of l.definitions in
    let U = tree_of l.second in
    let left = ways_of (drop l.first-index l.firsts) in
    (ways_of l.made.items ++ then_ways E l.unfoldings U left ≡ then_ways E l.unfoldings U (ways_of l.firsts))
    × (then_cost E l.unfoldings U left ≤ then_cost E l.unfoldings U (ways_of l.firsts))

abbrev pub invariant-each_then_turns-loop-first : goal.invariant-each_then_turns-loop-first
invariant-each_then_turns-loop-first l = let E = definitions_of l.definitions in
    let T = tree_of l.part in
    let left = ways_of (drop l.first-index l.firsts) in
    (ways_of l.made.items ++ then_turns E l.unfoldings T left ≡ then_turns E l.unfoldings T (ways_of l.firsts))
    × (then_turns_cost E l.unfoldings T left ≤ then_turns_cost E l.unfoldings T (ways_of l.firsts))

abbrev pub invariant-each_turned-loop-first : goal.invariant-each_turned-loop-first
invariant-each_turned-loop-first l = let E = definitions_of l.definitions in
    let T = tree_of l.part in
    let k = item_count (document_of l.counter) in
    let d = document_of l.document in
    let left = ways_of (drop l.first-index l.firsts) in
    (ways_of l.made.items ++ turn_ways E l.unfoldings T k d left ≡ turn_ways E l.unfoldings T k d (ways_of l.firsts))
    × (turn_cost E l.unfoldings T k d left ≤ turn_cost E l.unfoldings T k d (ways_of l.firsts))
