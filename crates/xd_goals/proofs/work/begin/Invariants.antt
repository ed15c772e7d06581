use Rattle.std.proofs.Common.{◌≡◌, length, map, take}
use Rattle.xd_state_heads.specs.Moves.{claim_with}
use Rattle.xd_state_heads.specs.Wants.{want_key}
use Rattle.xd_goals.specs.Kept.{view_of}
use Rattle.xd_goals.specs.Cases.{AreBegun}
use Rattle.xd_goals.specs.Progress.{HasGrown}
use Rattle.xd_goals.proofs.work.begin.Given as goal

abbrev pub invariant-loop-number : goal.invariant-loop-number
invariant-loop-number l = record {
  grows : HasGrown (length l.asked.auto.now) l.asked.auto.now l.store l.initial.goals l.goals l.answers;
  begun : AreBegun l.asked.auto.now (view_of l.goals) l.owner.number (claim_with l.asked.left l.asked.rights.now) (map want_key (take l.number l.cases.items)) l.made.items;
  end_is : l.number-end ≡ length l.cases.items;
}
