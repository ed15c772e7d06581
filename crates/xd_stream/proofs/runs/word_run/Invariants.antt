use Rattle.std.proofs.Common.{◌≡◌, true, take}
use Rattle.xd_doc.specs.Word.{are_word_parts}
use Rattle.xd_stream.proofs.runs.word_run.Given as goal

abbrev pub invariant-loop-i : goal.invariant-loop-i
invariant-loop-i l = are_word_parts (take l.i l.bytes) ≡ true
