use Rattle.std.proofs.Common.{take}
use Rattle.xd_syntax.specs.Kept.{program_tree}
use Rattle.xd_syntax.specs.Program.{names_of}
use Rattle.xd_heads.specs.Numbered.{KeepsNumbers, Serves}
use Rattle.xd_proof_check.specs.GoalHeads.{AreHeadsOf}
use Rattle.xd_proof_check.proofs.heads.heads_of_all.Given as goal

abbrev pub invariant-loop-id : goal.invariant-loop-id
invariant-loop-id l = record {
  serves : Serves l.program l.lister;
  keeps : KeepsNumbers l.fn.lister l.lister;
  heads : AreHeadsOf l.program.types l.lister.cells (names_of (program_tree l.program)) (take l.id-index l.types) l.made.items;
}
