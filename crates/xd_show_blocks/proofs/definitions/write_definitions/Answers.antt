use Rattle.std.proofs.Common.{◌≡◌, ◌++◌, List, ap, sym, ◌∙◌, arith}
use Rattle.std.specs.List.{flat_map}
use Rattle.std.proofs.lemmas.List.{take_all}
use Rattle.xd_syntax.specs.Kept.{ProgramTable}
use Rattle.xd_syntax.specs.Table.{Row}
use Rattle.xd_show_blocks.proofs.BlockLemmas.{line_of, lines_of_definitions}
use Rattle.xd_show_blocks.proofs.definitions.write_definitions.Goals as goal

pub returns : goal.returns
returns c =
    let p = c.args.sound.now in
    let q = c.program-program.result.now in
    let defs = c.type_defs-definition-items.result.now in
    let same : q ≡ p = c.program-program.ensures.program in
    let all : defs ≡ p.type_defs = c.type_defs-definition-items.ensures.type_defs ∙ ap (λ (t : ProgramTable). t.type_defs) same in
    let lines = ap (flat_map (line_of q.types)) (take_all c.loop-definition.definition-index defs (omega arith) ∙ all) ∙ ap (λ (types : List Row). flat_map (line_of types) p.type_defs) (ap (λ (t : ProgramTable). t.types) same)
    ∙ sym (lines_of_definitions p) in
    c.loop-definition.invariant ∙ ap (λ ls. c.args.out.now.items ++ ls) lines
