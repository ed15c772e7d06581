use Rattle.std.proofs.Common.{◌≡◌, ◌+◌, ◌++◌, length, map, take}
use Rattle.xd_state_heads.specs.Wants.{matching_sides}
use Rattle.xd_state_heads.proofs.heads.add_with_others.Given as goal

abbrev pub invariant-loop-number : goal.invariant-loop-number
invariant-loop-number g l = record {
  made : l.sides.items ≡ l.initial.sides.items ++ matching_sides g.C.Names.others (l.before + 1) (map g.M.Headed.head (take l.number l.moves));
  end_is : l.number-end ≡ length l.moves;
}
