use Rattle.std.proofs.Common.{◌≡◌, false, take}
use Rattle.xd_syntax.specs.Words.{has_word}
use Rattle.xd_patterns.specs.Held.{words_in}
use Rattle.xd_patterns.specs.Variables.{words_of}
use Rattle.xd_patterns.proofs.mark_table.MarkTable.has.Given as goal

abbrev pub invariant-loop-mark : goal.invariant-loop-mark
invariant-loop-mark l = has_word (words_of (words_in l.self) (take l.mark-index l.mark-items)) l.word ≡ false
