-- What `types` and `precise` answer, after the faults of names and of recursion.
use Rattle.std.specs.Prelude.{◌≡◌, ◌⊎◌}
use Rattle.xd_show_blocks.specs.Blocks.{AreBlocks}
use Rattle.xd_syntax.specs.CheckFaults.{IsAccepted}
use Rattle.xd_syntax.specs.Program.{ProgramTree}
use Rattle.xd_variables.specs.Seen.{Reading}
use Rattle.xd_command_steps.specs.Output.{Output}
use Rattle.xd_command_programs.specs.Check.{EndsAtCheck}

-- what each variable of the program's clauses may be by this reading, where the program is
-- accepted; else the answer of `check`
abbrev pub AnswersTypes : Reading → ProgramTree → Output → Type 0
AnswersTypes B P o = EndsAtCheck P o ⊎ (IsAccepted P × (o.status ≡ 0) × AreBlocks B P o.text)
