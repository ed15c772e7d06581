use Rattle.xd_read.proofs.CanonicalLemmas.{word_utf8}
use Rattle.xd_stream.proofs.labels.label_of.Goals as goal

pub unreachable-requires : goal.unreachable-requires
unreachable-requires c = c.in_default.ensures.cases.0 (word_utf8 c.args.word.now c.requires)
