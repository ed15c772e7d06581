use Rattle.xd_read.proofs.PartLemmas.{word_there}
use Rattle.xd_read.proofs.parts.label_at.Goals as goal

pub part-requires : goal.part-requires
part-requires c =
    let i = word_there _ _ _ c.requires.stands c.requires.spelled in
    record { order = i.order; start_boundary = i.start; end_boundary = i.end }
