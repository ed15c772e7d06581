use Rattle.std.proofs.Common.{List, ◌≡◌, ◌+◌, length, take}
use Rattle.xd_doc.specs.Document.{Document}
use Rattle.xd_empty.specs.Inhabited.{Searching}
use Rattle.xd_empty.specs.Uses.{lists_by_state}
use Rattle.xd_empty.proofs.finding.find_empty.Given as goal

abbrev pub invariant-loop-number : goal.invariant-loop-number
invariant-loop-number l = record {
  first : l.uses.first ≡ l.initial.uses.first;
  lists : l.uses.first + length l.uses.lists.items ≡ length l.auto';
  older : take l.initial.uses.first l.found ≡ take l.initial.uses.first l.initial.found;
  searching : (ds : List Document) → Searching l.auto' ds l.initial.uses.first l.initial.uses.first l.initial.found (lists_by_state l.initial.uses) l.initial.uses.waiting.items 0
      → Searching l.auto' ds l.initial.uses.first l.number l.found (lists_by_state l.uses) l.uses.waiting.items 0;
}
