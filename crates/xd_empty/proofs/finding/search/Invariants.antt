use Rattle.std.proofs.Common.{◌≡◌, ◌-◌, length, take}
use Rattle.xd_doc.specs.StoreNodes.{Keeps}
use Rattle.xd_empty.specs.Inhabited.{Searching, steps_in}
use Rattle.xd_empty.specs.Uses.{lists_by_state}
use Rattle.xd_empty.proofs.finding.search.Given as goal

abbrev pub invariant-loop-done : goal.invariant-loop-done
invariant-loop-done l = record {
  first : l.uses.first ≡ l.first;
  searching : Searching l.auto' l.store l.first (length l.auto') l.found (lists_by_state l.uses) l.uses.waiting.items l.done;
  older : take l.first l.found ≡ take l.first l.fn.found;
  keeps : Keeps l.initial.store l.store;
}

abbrev pub decreases-loop-done : goal.decreases-loop-done
decreases-loop-done l = steps_in (lists_by_state l.uses) l.uses.waiting.items - l.done
