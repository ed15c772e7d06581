use Rattle.std.proofs.Common.{◌≡◌, ◌≤◌, true, length, take}
use Rattle.std.specs.List.{Contains}
use Rattle.xd_auto.specs.declared.auto.State.{State}
use Rattle.xd_auto.specs.Automaton.{state_number}
use Rattle.xd_empty.specs.Uses.{AddsUses, HasNew, lists_by_state, uses_at}
use Rattle.xd_empty.proofs.uses.Uses.add.Given as goal

abbrev pub invariant-loop-state : goal.invariant-loop-state
invariant-loop-state l = record {
  first : l.self.first ≡ l.initial.self.first;
  count : length l.self.lists.items ≡ length l.initial.self.lists.items;
  adds : AddsUses (λ added. l.step ≡ added) (lists_by_state l.initial.self) (lists_by_state l.self) l.initial.self.waiting.items l.self.waiting.items;
  listed : (t : State) → Contains (take l.state-index l.leads_to) t → l.initial.self.first ≤ state_number t → Contains (uses_at (lists_by_state l.self) t) l.step;
  some : l.is_listed ≡ true → HasNew l.initial.self.first l.leads_to;
}
