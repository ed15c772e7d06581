use Rattle.std.proofs.Common.{sym}
use Rattle.xd_proof.proofs.AtomLemmas.{word_is}
use Rattle.xd_proof.proofs.atoms.is_word.Goals as goal

pub returns-then-is_word_start : goal.returns-then-is_word_start
returns-then-is_word_start c = let h = c.in-Some.ensures in word_is _ _ _ _ (h.cases).0 (sym c.if-is_word_start.ensures) c.are_word_parts.ensures
