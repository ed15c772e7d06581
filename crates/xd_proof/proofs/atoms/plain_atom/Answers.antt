use Rattle.std.proofs.Common.{sym}
use Rattle.xd_read.proofs.CanonicalLemmas.{word_utf8}
use Rattle.xd_proof.proofs.atoms.plain_atom.Goals as goal

pub returns-in_default : goal.returns-in_default
returns-in_default c = absurd ((c.in_default.ensures.cases).0 (word_utf8 c.args.word.now (sym c.if-not-is_word.ensures)))
