use Rattle.std.proofs.Common.{◌≡◌, drop}
use Rattle.xd_doc.specs.Word.{are_word_parts}
use Rattle.xd_sound.proofs.sound.are_word_parts.Given as goal

abbrev pub invariant-loop-byte : goal.invariant-loop-byte
invariant-loop-byte l = are_word_parts l.bytes ≡ are_word_parts (drop l.byte-index l.bytes)
