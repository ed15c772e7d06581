use Rattle.std.proofs.Common.{◌≡◌, ◌≤◌, ◌++◌, drop}
use Rattle.std.specs.List.{slice_range}
use Rattle.xd_doc.specs.Document.{escaped_all}
use Rattle.xd_write.proofs.WriteLemmas.{IsWritten}
use Rattle.xd_write.proofs.text.write_escaped.Given as goal

abbrev pub invariant-loop-i : goal.invariant-loop-i
invariant-loop-i l = record {
  within : l.start ≤ l.i;
  plain : escaped_all (drop l.start l.bytes) ≡ slice_range l.bytes l.start l.i ++ escaped_all (drop l.i l.bytes);
  written : IsWritten (escaped_all l.bytes) l.initial.out.items l.out.items (escaped_all (drop l.start l.bytes));
}
