use Rattle.std.proofs.Common.{◌++◌, codes, map, ap, sym, subst, ◌∙◌}
use Rattle.std.specs.List.{AllByRecursion}
use Rattle.xd_syntax.specs.Types.{BelongsTo, tree}
use Rattle.xd_syntax.specs.TypeText.{type_text}
use Rattle.xd_proof_write.specs.ClaimText.{rights_text}
use Rattle.xd_proof_write.proofs.ClaimLemmas.{claim_belongs, claim_read}
use Rattle.xd_proof_write.proofs.claim.claim_line.Goals as goal

pub claim_of-requires-clause-left : goal.claim_of-requires-clause-left
claim_of-requires-clause-left c =
    let e = c.types-types.ensures.types ∙ ap (λ p. p.types) c.program.ensures.program in
    let g = c.goals-some.ensures.goals c.args.sound.now.types c.requires in
    let b = claim_belongs c.args.sound.now.types c.args.proof.now c.left.result c.rights.result.now c.left.ensures c.rights.ensures g.0 g.1 c.goals-some.ensures.some in
    subst (λ rows. BelongsTo rows c.left.result) (sym e) b.0

pub claim_of-requires-clause-rights : goal.claim_of-requires-clause-rights
claim_of-requires-clause-rights c =
    let e = c.types-types.ensures.types ∙ ap (λ p. p.types) c.program.ensures.program in
    let g = c.goals-some.ensures.goals c.args.sound.now.types c.requires in
    let b = claim_belongs c.args.sound.now.types c.args.proof.now c.left.result c.rights.result.now c.left.ensures c.rights.ensures g.0 g.1 c.goals-some.ensures.some in
    subst (λ rows. AllByRecursion (BelongsTo rows) c.rights.result.now) (sym e) b.1

pub returns-clause-text : goal.returns-clause-text
returns-clause-text c = λ claim others a.
    let e = c.types-types.ensures.types ∙ ap (λ p. p.types) c.program.ensures.program in
    c.in_ok-extend_from_slice.ensures.items
    ∙ ap (λ s. c.args.out.now.items ++ s)
    (c.deref.ensures.value ∙ c.in_ok-made.ensures
    ∙ ap (λ rows. codes "accepted: " ++ (type_text (tree rows c.left.result) ++ (codes " <: " ++ rights_text (map (tree rows) c.rights.result.now)))) e
    ∙ claim_read c.args.sound.now.types c.args.proof.now c.left.result c.rights.result.now c.left.ensures c.rights.ensures claim others a)
