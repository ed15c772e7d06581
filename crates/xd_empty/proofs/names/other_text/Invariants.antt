use Rattle.std.proofs.Common.{◌+◌, ◌-◌}
use Rattle.std.specs.String.{string_len}
use Rattle.xd_doc.proofs.ClassLemmas.{longest}
use Rattle.xd_empty.proofs.names.other_text.Given as goal

abbrev pub decreases-loop-word : goal.decreases-loop-word
decreases-loop-word l = longest l.words.names + 1 - string_len l.word
