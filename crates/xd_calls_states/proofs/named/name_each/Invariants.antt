use Rattle.std.specs.List.{AllByRecursion}
use Rattle.xd_auto.specs.Automaton.{IsState}
use Rattle.xd_heads.specs.Mirrors.{Mirrors}
use Rattle.xd_calls_goals.specs.declared.named.NamedState.{NamedState}
use Rattle.xd_calls_states.proofs.named.name_each.Given as goal

abbrev pub invariant-loop-name : goal.invariant-loop-name
invariant-loop-name l = record {
  mirrors : Mirrors l.sound l.cells l.auto';
  states : AllByRecursion (λ (n : NamedState). IsState l.auto' n.state) l.states.items;
}
