use Rattle.std.proofs.Common.{◌≡◌, ◌+◌, ◌++◌, ◌∷◌, [], suc, get_or, ap, sym, subst, ◌∙◌, arith}
use Rattle.std.proofs.lemmas.List.{get_or_default}
use Rattle.xd_syntax.specs.PlacedTable.{the_start}
use Rattle.xd_syntax.specs.declared.types.TypeDef.{TypeDef}
use Rattle.xd_syntax.specs.declared.types.TypeId.{TypeId}
use Rattle.xd_shown.proofs.DefiningLemmas.{definitions_push}
use Rattle.xd_shown.proofs.definitions.definitions.Goals as goal

pub loop-number-preserved : goal.loop-number-preserved
loop-number-preserved c =
    let words = c.args.words.now in
    let bodies = c.args.bodies.now in
    let k = c.loop-number.number in
    let w = c.in_ok-share.field-0 in
    let none : TypeId = record { at = 0 } in
    let b : TypeId = get_or bodies k none in
    let name : w ≡ get_or words k w = subst (λ x. x ≡ get_or words k x) (sym c.in_ok-share.ensures) c.index-words-number.is in
    let body : b ≡ get_or bodies k b = get_or_default bodies k none b (omega (arith, c.requires)) in
    let next : k + 1 ≡ suc k = omega arith in
    c.in_ok-push.ensures.items
    ∙ ap (λ ds. let d : TypeDef = record { name = w; place = the_start; body = b } in ds ++ d ∷ []) c.loop-number.invariant
    ∙ definitions_push words bodies k (k + 1) w b (omega arith) c.requires next name body
