use Rattle.std.proofs.Common.{take}
use Rattle.std.specs.List.{AllByRecursion}
use Rattle.xd_auto.specs.Automaton.{Automaton}
use Rattle.xd_show_solve.specs.Levels.{IsWritten}
use Rattle.xd_show.specs.Contents.{GrowsContents, GrowsNames, MeansStates}
use Rattle.xd_show.proofs.contents.write_names.Given as goal

abbrev pub invariant-loop-number : goal.invariant-loop-number
invariant-loop-number l = record {
  grows : GrowsNames l.names l.fn.pool.types l.pool.types;
  contents : (a : Automaton) → GrowsContents (MeansStates a l.names l.named) a l.fn.pool.types l.fn.written.items l.pool.types l.written.items;
  written : AllByRecursion (IsWritten l.written.items) (take l.number l.named);
}
