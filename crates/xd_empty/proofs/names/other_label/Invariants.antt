use Rattle.std.proofs.Common.{◌≡◌, ◌+◌, ◌-◌, true}
use Rattle.std.specs.String.{string_bytes, string_len}
use Rattle.xd_doc.specs.Word.{is_word}
use Rattle.xd_doc.proofs.ClassLemmas.{longest}
use Rattle.xd_empty.proofs.names.other_label.Given as goal

abbrev pub invariant-loop-word : goal.invariant-loop-word
invariant-loop-word l = is_word (string_bytes l.word) ≡ true

abbrev pub decreases-loop-word : goal.decreases-loop-word
decreases-loop-word l = longest l.class.names + 1 - string_len l.word
