use Rattle.std.proofs.Common.{◌≡◌, [], replicate}
use Rattle.xd_empty.specs.Uses.{lists_from}
use Rattle.xd_empty.proofs.uses.Uses.bare.Given as goal

abbrev pub invariant-loop : goal.invariant-loop
invariant-loop l = lists_from l.first l.lists.items ≡ replicate l.counter []
