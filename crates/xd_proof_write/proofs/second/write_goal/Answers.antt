use Rattle.std.proofs.Common.{◌++◌, codes, map, flat_map, ap, ◌∙◌}
use Rattle.std.specs.Str.{bytes_eq}
use Rattle.xd_proof_write.specs.SecondText.{number_among}
use Rattle.xd_proof_write.specs.Written.{number_line, case_line, empty_line, texts_in, text_at, right_lines, with_texts}
use Rattle.xd_proof_write.proofs.GoalLemmas.{goal_joined}
use Rattle.xd_proof_write.proofs.second.write_goal.Goals as goal

pub returns-clause-lines : goal.returns-clause-lines
returns-clause-lines c = λ more.
    let rows = c.args.types.now in
    let v = c.deref.ensures.value in
    c.in_ok-write_cases.ensures
    ∙ ap (λ cases. c.write_empty_line.new.out.items ++ flat_map case_line cases) c.deref-2.ensures.value
    ∙ ap (λ o. o ++ flat_map case_line (c.args.goal.now.cases).items) c.in_ok-write_empty_line.ensures
    ∙ goal_joined rows c.args.goal.now c.args.number c.in_ok-left.left (texts_in c.number.new.self) (texts_in c.write_rights.new.numbers) c.args.out.now.items c.write_number_line-2.new.out.items
    c.write_rights.new.out.items (empty_line c.args.goal.now.empty_right) (flat_map case_line (c.args.goal.now.cases).items)
    (c.in_ok-write_rights.ensures.texts ∙ ap (λ ids. with_texts (texts_in c.number.new.self) (map (text_at rows) ids)) v)
    c.in_ok-left.ensures.number
    (c.in_ok-write_number_line-2.ensures ∙ ap (λ o. o ++ number_line (codes "left") c.in_ok-left.left) c.in_ok-write_number_line.ensures)
    (λ more. c.in_ok-write_rights.ensures.lines more ∙ ap (λ ids. c.write_number_line-2.new.out.items ++ right_lines rows (number_among bytes_eq (texts_in c.write_rights.new.numbers ++ more)) ids) v)
    more
