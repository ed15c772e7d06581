use Rattle.std.proofs.Common.{◌≡◌, ◌++◌, take}
use Rattle.std.specs.List.{flat_map}
use Rattle.xd_state_heads.proofs.heads.add_state_names.Given as goal

abbrev pub invariant-loop-step : goal.invariant-loop-step
invariant-loop-step g l = l.names.items ≡ l.initial.names.items ++ flat_map (λ step. g.C.Names.names_of (g.M.Headed.class_of step)) (take l.step-index l.moves)
