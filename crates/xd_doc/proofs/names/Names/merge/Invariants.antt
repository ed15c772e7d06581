use Rattle.std.proofs.Common.{◌+◌, length, List, ◌++◌}
use Rattle.std.specs.List.Sorted.{IsStrictlySortedBy}
use Rattle.xd_doc.specs.Merging.{IsMerged}
use Rattle.xd_doc.proofs.names.Names.merge.Given as goal

abbrev pub invariant-loop-next : goal.invariant-loop-next
invariant-loop-next g l = record {
  one : IsStrictlySortedBy g.N.Ord.cmp l.one;
  two : IsStrictlySortedBy g.N.Ord.cmp l.two;
  merged : (more : List g.row.N.Denot) → IsMerged g.N.Name.is_name g.N.Ord.cmp g.N.PartialEq.eq l.self.except l.except l.one l.two more
      → IsMerged g.N.Name.is_name g.N.Ord.cmp g.N.PartialEq.eq l.self.except l.except l.self.names.value.items l.others (l.kept.items ++ more);
}

abbrev pub decreases-loop-next : goal.decreases-loop-next
decreases-loop-next g l = length l.one + length l.two
