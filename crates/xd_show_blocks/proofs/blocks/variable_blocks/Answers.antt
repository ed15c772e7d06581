use Rattle.std.proofs.Common.{◌≡◌, [], vec_len, ap, sym, ◌∙◌, rules, arith}
use Rattle.std.proofs.lemmas.Bool.Decides.{nat_tests}
use Rattle.std.proofs.lemmas.List.{nil_from_length}
use Rattle.std.proofs.lemmas.Result.{IfOk-weaker}
use Rattle.xd_shown.specs.Shown.{defined_names}
use Rattle.xd_syntax.specs.Kept.{ProgramTable, program_tree}
use Rattle.xd_variables.specs.Bound.{reading_of}
use Rattle.xd_show_blocks.specs.AtStates.{HasBlocks}
use Rattle.xd_show_blocks.specs.Blocks.{AreBlocks}
use Rattle.xd_show_blocks.proofs.BlockLemmas.{all_told, none_told, states_there}
use Rattle.xd_show_blocks.proofs.blocks.variable_blocks.Goals as goal

pub returns-then-is_empty : goal.returns-then-is_empty
returns-then-is_empty c =
    let bound = c.in_ok-bound.bound in
    let h = c.in_ok-bound.ensures in
    let none : bound.variables.items ≡ [] = nil_from_length bound.variables.items (let t = sym c.is_empty.ensures ∙ c.if-is_empty.true in let z : vec_len bound.variables ≡ 0 = grind (arith, nat_tests) in search rules) in
    none_told bound.auto (reading_of c.args.ways) (program_tree c.args.checked.now) h.variables bound.variables.items c.in_ok-from_slice.field-0.items none h.seen h.each c.in_ok-from_slice.ensures.items

pub blocks_of-requires : goal.blocks_of-requires
blocks_of-requires c =
    let bound = c.in_ok-bound.bound in
    let h = c.in_ok-bound.ensures in
    states_there bound.auto [] (reading_of c.args.ways) (program_tree c.args.checked.now) h.variables bound.variables.items h.each

pub returns : goal.returns
returns c =
    let bound = c.in_ok-bound.bound in
    let h = c.in_ok-bound.ensures in
    let P = program_tree c.args.checked.now in
    let xs = bound.variables.items in
    let some : xs ≡ [] → ⊥ = λ e. (let z : vec_len bound.variables ≡ 0 = search rules in let n = c.is_empty.ensures in let m = c.if-is_empty.false in grind (arith, nat_tests)) in
    let names : defined_names P ≡ c.deref.result.now = sym (c.deref.ensures.value ∙ c.in_ok-taken.ensures ∙ ap (λ (p : ProgramTable). defined_names (program_tree p)) c.sound.ensures.sound) in
    IfOk-weaker c.blocks_of.result (λ t. HasBlocks bound.auto c.deref.result.now xs t.items) (λ t. AreBlocks (reading_of c.args.ways) P t.items)
    (λ t has. all_told bound.auto (reading_of c.args.ways) P c.deref.result.now h.variables xs t.items names h.seen h.each has some) c.blocks_of.ensures
