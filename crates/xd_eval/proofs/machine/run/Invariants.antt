use Rattle.std.proofs.Common.{◌≡◌, []}
use Rattle.xd_doc.specs.StoreNodes.{Keeps}
use Rattle.xd_eval.specs.Machine.{ControlStands, FramesStand, outcome, steps_left}
use Rattle.xd_eval.specs.Values.{JoinsStand, world}
use Rattle.xd_eval.proofs.machine.run.Given as goal

-- what comes of the state is what comes of the first one
abbrev pub invariant-steps : goal.invariant-steps
invariant-steps g l =
    record {
      same : outcome l.program.sound.now (world l.store l.machine.joins.items) l.machine.frames.items l.control l.machine.left ≡ outcome l.program.sound.now (world l.fn.store []) [] l.fn.start l.fn.calls;
      control : ControlStands l.program.sound.now (world l.store l.machine.joins.items) l.control;
      frames : FramesStand l.program.sound.now (world l.store l.machine.joins.items) l.machine.frames.items;
      joins : JoinsStand l.store l.machine.joins.items;
      serves : g.M.Matching.serves l.matching l.program.sound.now l.store;
      keeps : Keeps l.fn.store l.store;
    }

abbrev pub decreases-steps : goal.decreases-steps
decreases-steps g l = steps_left l.program.sound.now (world l.store l.machine.joins.items) l.machine.frames.items l.control l.machine.left
