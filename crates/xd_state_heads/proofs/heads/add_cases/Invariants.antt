use Rattle.std.proofs.Common.{◌≡◌, ◌+◌, ◌++◌, length, map, take}
use Rattle.xd_state_heads.specs.Wants.{names_in, wants_of}
use Rattle.xd_state_heads.proofs.heads.add_cases.Given as goal

abbrev pub invariant-loop-number : goal.invariant-loop-number
invariant-loop-number g l = record {
  made : l.cases.items ≡ l.initial.cases.items ++ wants_of (names_in l.unnamed.labels l.unnamed.texts) (1 + l.before) (map g.M.Headed.head (take l.number l.moves));
  end_is : l.number-end ≡ length l.moves;
}
