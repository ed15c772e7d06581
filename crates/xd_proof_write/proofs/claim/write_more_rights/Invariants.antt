use Rattle.std.proofs.Common.{◌≡◌, ◌++◌, take, codes, flat_map}
use Rattle.xd_syntax.specs.Types.{tree}
use Rattle.xd_syntax.specs.TypeText.{type_text}
use Rattle.xd_proof_write.proofs.claim.write_more_rights.Given as goal

abbrev pub invariant-loop-right : goal.invariant-loop-right
invariant-loop-right l = l.out.items ≡ l.fn.out.items ++ flat_map (λ id. codes " or " ++ type_text (tree l.types id)) (take l.right-index l.rights)
