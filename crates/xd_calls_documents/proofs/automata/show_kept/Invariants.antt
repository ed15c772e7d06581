use Rattle.xd_auto.specs.Kept.{AreRight}
use Rattle.xd_calls_documents.proofs.automata.show_kept.Given as goal

abbrev pub invariant-loop-name : goal.invariant-loop-name
invariant-loop-name l = AreRight l.fixture.auto l.fixture.store l.answers
