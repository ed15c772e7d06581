use Rattle.std.proofs.Common.{◌≡◌, ◌++◌, drop}
use Rattle.xd_names.proofs.linear.push_all.Given as goal

abbrev pub invariant-loop-word : goal.invariant-loop-word
invariant-loop-word l = l.scope ++ drop l.word-index l.words ≡ l.initial.scope ++ l.words
