use Rattle.std.proofs.Common.{◌≡◌, ◌∷◌, take}
use Rattle.std.specs.List.{flat_map}
use Rattle.xd_auto.specs.Automaton.{moves_at}
use Rattle.xd_state_heads.proofs.heads.names_of.Given as goal

abbrev pub invariant-loop-state : goal.invariant-loop-state
invariant-loop-state g l = l.names.items ≡ flat_map (λ state. flat_map (λ step. g.C.Names.names_of (g.M.Headed.class_of step)) (g.M.Move.moves_in (moves_at l.auto' state))) (l.fn.left ∷ take l.state-index l.rights)
