use Rattle.std.proofs.Common.{◌≡◌}
use Rattle.xd_empty.specs.Uses.{lists_by_state}
use Rattle.xd_empty.proofs.UsesLemmas.{Listing}
use Rattle.xd_empty.proofs.uses.Uses.new.Given as goal

abbrev pub invariant-loop-number : goal.invariant-loop-number
invariant-loop-number l = record {
  first : l.uses.first ≡ l.first;
  listing : Listing l.auto' l.first l.number (lists_by_state l.uses) l.uses.waiting.items;
}
