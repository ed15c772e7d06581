use Rattle.std.proofs.Common.{◌≡◌, ℕ, List, true, take}
use Rattle.std.specs.List.{list_all}
use Rattle.xd_syntax.specs.declared.types.TypeId.{TypeId}
use Rattle.xd_proof_check.specs.Leaves.{is_among}
use Rattle.xd_moves.specs.Codes.{number_at}
use Rattle.xd_proof_check.specs.Paths.{AreCounts}
use Rattle.xd_proof_check.proofs.leaves.rights_stand.Given as goal

abbrev pub invariant-loop-id : goal.invariant-loop-id
invariant-loop-id l = (ns : List ℕ) → AreCounts l.counts ns → list_all (λ (id : TypeId). is_among ns (number_at l.numbers id.at)) (take l.id-index l.rights) ≡ true
