use Rattle.std.proofs.Common.{◌≡◌, map, is_some, arith, subst, sym}
use Rattle.std.proofs.lemmas.Grind.{common_steps}
use Rattle.xd_empty.specs.Parts.{AreMarks}
use Rattle.xd_empty.proofs.PartLemmas.{marks_are}
use Rattle.xd_empty.proofs.part.inhabited.Goals as goal

pub returns : goal.returns
returns c =
    let all : c.loop-document.marks.items ≡ map is_some c.in_ok-found.found.items = grind (arith, common_steps) in
    subst (AreMarks c.args.auto.now) (sym all) (marks_are c.args.auto.now _ c.in_ok-found.found.items c.in_ok-found.ensures.inhabitants)
