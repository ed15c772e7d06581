use Rattle.std.proofs.Common.{◌≡◌, true, take}
use Rattle.xd_stream.specs.Runs.{are_plain}
use Rattle.xd_stream.proofs.runs.text_run.Given as goal

abbrev pub invariant-loop-i : goal.invariant-loop-i
invariant-loop-i l = are_plain (take l.i l.bytes) ≡ true
