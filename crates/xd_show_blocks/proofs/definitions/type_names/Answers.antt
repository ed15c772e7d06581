use Rattle.std.proofs.Common.{◌≡◌, map, ap, sym, ◌∙◌, arith}
use Rattle.std.proofs.lemmas.List.{take_all}
use Rattle.xd_syntax.specs.Kept.{ProgramTable}
use Rattle.xd_syntax.specs.declared.types.TypeDef.{TypeDef}
use Rattle.xd_show_blocks.proofs.BlockLemmas.{names_of_definitions}
use Rattle.xd_show_blocks.proofs.definitions.type_names.Goals as goal

pub returns : goal.returns
returns c =
    let p = c.args.sound.now in
    let defs = c.type_defs-definition-items.result.now in
    let all : defs ≡ p.type_defs = c.type_defs-definition-items.ensures.type_defs ∙ ap (λ (q : ProgramTable). q.type_defs) c.program-program.ensures.program in
    c.loop-definition.invariant ∙ ap (map (λ (d : TypeDef). d.name)) (take_all c.loop-definition.definition-index defs (omega arith) ∙ all) ∙ sym (names_of_definitions p.types p.type_defs)
