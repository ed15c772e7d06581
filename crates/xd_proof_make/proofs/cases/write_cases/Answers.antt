use Rattle.std.proofs.Common.{◌≤◌, length, refl, rules}
use Rattle.xd_proof_make.specs.Places.{new_numbers}
use Rattle.xd_proof_make.specs.Ordered.{IsWritable}
use Rattle.xd_proof_make.proofs.ReadCaseLemmas.{writing_none, writing_text, writing_element, writing_all, front_all}
use Rattle.xd_proof_make.proofs.cases.write_cases.Goals as goal
use Rattle.xd_proof_make.proofs.cases.write_cases.Goals.{then-is_text+in_ok-add_cases, else-is_text+in_ok-add_cases-2}

pub loop-index-init : goal.loop-index-init
loop-index-init c =
    writing_none c.args.table.now.nodes (new_numbers c.args.heads.now) c.args.goals.now c.args.sorts.now c.args.elements c.args.choices.now c.cut_choices.result.0.now c.cut_choices.result.1.now _ c.new-cases.result.items c.cut_choices.ensures refl c.new-cases.ensures.items

pub add_cases-requires : goal.add_cases-requires
add_cases-requires c =
    front_all (IsWritable c.args.table.now.nodes (length c.args.goals.now) (length c.args.heads.now)) _ c.loop-index.at_texts.now c.cut_choices-then-is_text.result.0.now c.cut_choices-then-is_text.result.1.now c.args.choices.now
    c.cut_choices-then-is_text.ensures c.loop-index.invariant.texts_of c.requires.writable

pub add_cases-requires-else-is_text : goal.add_cases-requires-else-is_text
add_cases-requires-else-is_text c =
    front_all (IsWritable c.args.table.now.nodes (length c.args.goals.now) (length c.args.heads.now)) _ c.loop-index.at_elements.now c.cut_choices-else-is_text.result.0.now c.cut_choices-else-is_text.result.1.now c.args.choices.now
    c.cut_choices-else-is_text.ensures c.loop-index.invariant.elements_of c.requires.writable

pub loop-index-preserved : goal.loop-index-preserved
loop-index-preserved c =
    elim c.if-is_text.branch [
      | then-is_text+in_ok-add_cases w ↦
          rw (w.at_elements-is, w.at_texts-is, w.element-is, w.text-is, w.cases-is)
          (writing_text c.args.table.now.nodes (new_numbers c.args.heads.now) c.args.goals.now c.args.sorts.now c.args.elements c.args.choices.now c.loop-index.index c.loop-index.element c.loop-index.text c.loop-index.at_elements.now c.loop-index.at_texts.now c.loop-index.cases.items
          w.add_cases.new.cases.items w.cut_choices-then-is_text.result.0.now w.cut_choices-then-is_text.result.1.now c.loop-index.invariant c.loop-index-test.true _ refl w.in_ok-add_cases.ensures w.if-is_text.true w.cut_choices-then-is_text.ensures)
      | else-is_text+in_ok-add_cases-2 w ↦
          rw (w.at_elements-is, w.at_texts-is, w.element-is, w.text-is, w.cases-is)
          (writing_element c.args.table.now.nodes (new_numbers c.args.heads.now) c.args.goals.now c.args.sorts.now c.args.elements c.args.choices.now c.loop-index.index c.loop-index.element c.loop-index.text c.loop-index.at_elements.now c.loop-index.at_texts.now c.loop-index.cases.items
          w.add_cases-else-is_text.new.cases.items w.cut_choices-else-is_text.result.0.now w.cut_choices-else-is_text.result.1.now c.loop-index.invariant c.loop-index-test.true _ refl w.in_ok-add_cases-2.ensures w.if-is_text.false w.cut_choices-else-is_text.ensures)
    ]

pub returns-clause-cases : goal.returns-clause-cases
returns-clause-cases c =
    let le : length c.args.sorts.now ≤ c.loop-index.index = search rules in
    writing_all c.args.table.now.nodes (new_numbers c.args.heads.now) c.args.goals.now c.args.sorts.now c.args.elements c.args.choices.now c.loop-index.index c.loop-index.element c.loop-index.text c.loop-index.at_elements.now c.loop-index.at_texts.now c.loop-index.cases.items
    c.loop-index.invariant le
