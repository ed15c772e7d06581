-- Commands whose numbers are within their limits.
use Rattle.std.specs.Prelude.{◌≤◌}
use Rattle.xd_command.specs.declared.command.Command.{Command}
use Rattle.xd_command.specs.declared.command.Command.TheVariants.{Stream, Run, Sample}
use Rattle.xd_command_documents.specs.Stream.{piece_limit}
use Rattle.xd_command_programs.specs.Sample.{sample_limit}

-- some call may be made, where the command is a run; the pieces of a stream have some byte; and a
-- sample is within its limit
abbrev pub CanRun : Command → Type 0
CanRun (Run file document fuel) = 1 ≤ fuel
CanRun (Stream file name document piece) = (1 ≤ piece) × (piece ≤ piece_limit)
CanRun (Sample persons) = persons ≤ sample_limit
CanRun command = Unit {0}
