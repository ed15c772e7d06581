use Rattle.std.proofs.Common.{[], ◌++◌, flat_map, ap, ◌∙◌}
use Rattle.std.specs.Str.{bytes_eq}
use Rattle.xd_proof_write.specs.SecondText.{number_among}
use Rattle.xd_proof_write.specs.Written.{texts_in, goal_texts, goals_lines, with_texts}
use Rattle.xd_proof_write.proofs.GoalLemmas.{text_joined}
use Rattle.xd_proof_write.proofs.second.text_of.Goals as goal

pub returns : goal.returns
returns c =
    let rows = c.args.types.now in
    let texts = texts_in c.write_goals.new.numbers in
    text_joined rows c.args.goals.now texts c.len.result c.in_ok-made.made.items c.write_number_line.new.out.items c.write_types.new.out.items c.write_number_line-2.new.out.items c.extend_from_slice.new.self.items
    c.extend_from_slice-2.new.self.items c.write_goals.new.out.items
    (c.in_ok-write_goals.ensures.texts ∙ ap (λ ts. with_texts ts (flat_map (goal_texts rows) c.args.goals.now)) c.new-numbers.ensures.none)
    c.len.ensures c.in_ok-made.ensures.items c.in_ok-write_number_line.ensures c.in_ok-write_types.ensures c.in_ok-write_number_line-2.ensures
    (c.in_ok-extend_from_slice.ensures.items ∙ ap (λ s. c.write_number_line-2.new.out.items ++ s) c.deref.ensures.value)
    (c.in_ok-write_goals.ensures.lines [] ∙ ap (λ s. s ++ goals_lines rows (number_among bytes_eq (texts ++ [])) 1 c.args.goals.now) c.new-goal_lines.ensures.items)
    c.in_ok-extend_from_slice-2.ensures.items
