use Rattle.std.proofs.Common.{◌≡◌, map, take, is_some}
use Rattle.xd_empty.proofs.part.inhabited.Given as goal

abbrev pub invariant-loop-document : goal.invariant-loop-document
invariant-loop-document l = l.marks.items ≡ map is_some (take l.document-index l.document-items)
