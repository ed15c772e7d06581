use Rattle.std.proofs.Common.{◌≡◌, map, take}
use Rattle.xd_heads.specs.declared.lister.NumberedHead.{NumberedHead}
use Rattle.xd_proof_check.proofs.check.rest_numbers.Given as goal

abbrev pub invariant-loop-head : goal.invariant-loop-head
invariant-loop-head l = l.made.items ≡ map (λ (h : NumberedHead). h.rest) (take l.head-index l.heads)
