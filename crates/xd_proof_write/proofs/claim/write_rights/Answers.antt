use Rattle.std.proofs.Common.{◌++◌, codes, flat_map, map, sym, ap, ◌∙◌, append_assoc}
use Rattle.xd_syntax.specs.Types.{tree}
use Rattle.xd_syntax.specs.TypeText.{type_text}
use Rattle.xd_proof_write.specs.ClaimText.{rights_text}
use Rattle.xd_proof_write.proofs.ClaimLemmas.{rights_joined}
use Rattle.xd_proof_write.proofs.claim.write_rights.Goals as goal

pub returns : goal.returns
returns c =
    let rows = c.args.types.now in
    let first = tree rows c.in-Some.first.now in
    c.in_ok-write_more_rights.ensures
    ∙ ap (λ s. s ++ flat_map (λ id. codes " or " ++ type_text (tree rows id)) c.in-Some.others.now) c.in_ok-type_text.ensures.ok
    ∙ append_assoc c.args.out.now.items (type_text first) (flat_map (λ id. codes " or " ++ type_text (tree rows id)) c.in-Some.others.now)
    ∙ ap (λ r. c.args.out.now.items ++ r) (rights_joined rows first c.in-Some.others.now ∙ ap (λ ids. rights_text (map (tree rows) ids)) (sym (c.in-Some.ensures.cases).0))
