use Rattle.xd_empty.specs.Parts.{IsKeptPart}
use Rattle.xd_empty.proofs.PartLemmas.{part_accepts, part_inhabited}
use Rattle.xd_empty.proofs.part.inhabited_part.Goals as goal

pub returns-clause-exact : goal.returns-clause-exact
returns-clause-exact c =
    let kept : IsKeptPart c.in_ok-part.part c.in_ok-marks.marks.items c.in_ok-kept.kept = rw c.deref.ensures.value at c.in_ok-kept.ensures in
    part_accepts c.in_ok-part.part c.in_ok-marks.marks.items c.in_ok-kept.kept c.in_ok-marks.ensures kept c.args.auto.now c.args.state c.in_ok-part.start c.in_ok-made.made c.in_ok-made.start c.in_ok-part.ensures.ok c.in_ok-made.ensures.ok

pub returns-clause-inhabited : goal.returns-clause-inhabited
returns-clause-inhabited c =
    let kept : IsKeptPart c.in_ok-part.part c.in_ok-marks.marks.items c.in_ok-kept.kept = rw c.deref.ensures.value at c.in_ok-kept.ensures in
    part_inhabited c.in_ok-part.part c.in_ok-marks.marks.items c.in_ok-kept.kept c.in_ok-marks.ensures kept c.in_ok-part.start c.in_ok-made.made c.in_ok-made.start c.in_ok-made.ensures.reached c.in_ok-made.ensures.originals
