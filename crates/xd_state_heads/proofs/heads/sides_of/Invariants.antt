use Rattle.std.proofs.Common.{◌≡◌, length, take}
use Rattle.std.specs.List.{flat_map}
use Rattle.xd_state_heads.specs.Moves.{heads_of}
use Rattle.xd_state_heads.specs.Wants.{matching_sides}
use Rattle.xd_state_heads.proofs.heads.sides_of.Given as goal

abbrev pub invariant-loop-place : goal.invariant-loop-place
invariant-loop-place l = record {
  made : l.sides.items ≡ matching_sides l.atom 1 (flat_map (heads_of l.auto') (take l.place l.rights));
  count : l.before ≡ length (flat_map (heads_of l.auto') (take l.place l.rights));
  end_is : l.place-end ≡ length l.rights;
}
