use Rattle.std.proofs.Common.{◌≤◌, ◌-◌, length, take}
use Rattle.xd_base.specs.Outside.{HasGrown}
use Rattle.xd_command_steps.proofs.output.put_all.Given as goal

abbrev pub invariant-loop-at : goal.invariant-loop-at
invariant-loop-at g l = record {
  within : l.at ≤ length l.bytes;
  grew : HasGrown (g.S.Sink.written l.fn.sink) (g.S.Sink.written l.sink) (take l.at l.bytes);
  faults : g.S.Sink.faults l.fn.sink ≤ g.S.Sink.faults l.sink;
}

abbrev pub decreases-loop-at : goal.decreases-loop-at
decreases-loop-at g l = length l.bytes - l.at
