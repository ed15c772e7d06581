use Rattle.std.proofs.Common.{◌≡◌, ◌+◌, ◌-◌, ◌≤◌, ◌++◌, length, map, take}
use Rattle.xd_state_heads.specs.Wants.{matching_sides}
use Rattle.xd_state_heads.proofs.heads.add_with_name.Given as goal

abbrev pub invariant-loop-number : goal.invariant-loop-number
invariant-loop-number g l = record {
  within : l.from ≤ length l.moves;
  made : l.sides.items ≡ l.initial.sides.items ++ matching_sides (g.C.Names.named l.name) (l.before + 1) (map g.M.Headed.head (take l.from l.moves));
}

abbrev pub decreases-loop-number : goal.decreases-loop-number
decreases-loop-number g l = length l.moves - l.from
