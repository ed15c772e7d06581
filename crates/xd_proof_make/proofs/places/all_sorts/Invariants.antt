use Rattle.std.proofs.Common.{◌≡◌, map, take}
use Rattle.xd_heads.specs.Mirrors.{sorts_at}
use Rattle.xd_proof_make.proofs.places.all_sorts.Given as goal

abbrev pub invariant-loop-state : goal.invariant-loop-state
invariant-loop-state l = map (λ sorts. sorts.now) l.made.items ≡ map (sorts_at l.cells) (take l.state-index l.wanted)
