use Rattle.std.specs.List.{AllByRecursion}
use Rattle.xd_auto.specs.Automaton.{IsState}
use Rattle.xd_calls_documents.proofs.automata.unite.Given as goal

abbrev pub invariant-loop-name : goal.invariant-loop-name
invariant-loop-name l = AllByRecursion (IsState l.fixture.auto) l.states.items
