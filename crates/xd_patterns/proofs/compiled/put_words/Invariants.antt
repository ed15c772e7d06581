use Rattle.std.proofs.Common.{◌≡◌, drop}
use Rattle.xd_patterns.specs.Variables.{put_each}
use Rattle.xd_patterns.proofs.compiled.put_words.Given as goal

abbrev pub invariant-loop-word : goal.invariant-loop-word
invariant-loop-word l = put_each l.words.keys (drop l.word-index l.word-items) ≡ put_each l.initial.words.keys l.word-items
