use Rattle.xd_shown.proofs.NamingSteps.{AreAdded}
use Rattle.xd_shown.proofs.names.set_of.Given as goal

abbrev pub invariant-loop-word : goal.invariant-loop-word
invariant-loop-word l = AreAdded l.words l.word-index l.made.keys
