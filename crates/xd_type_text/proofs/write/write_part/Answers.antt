use Rattle.std.proofs.Common.{[], ◌∷◌, ◌++◌, ◌*◌, cond, arith, ap, ◌∙◌}
use Rattle.xd_syntax.specs.TreeForms.{size}
use Rattle.xd_syntax.specs.TypeText.{text_at_level}
use Rattle.xd_type_text.specs.Waiting.{level_of}
use Rattle.xd_type_text.specs.declared.waiting.Waiting.TheVariants as waits
use Rattle.xd_type_text.proofs.Pieces.{elem_opened, seq_opened, alt_opened, repeated_opened, shape_is, parts_are, merged_are}
use Rattle.xd_type_text.proofs.write.write_part.Goals as goal

pub returns-in_ok-push_content-in-Elem : goal.returns-in_ok-push_content-in-Elem
returns-in_ok-push_content-in-Elem c =
    let b = parts_are _ _ _ _ c.node.ensures.parts c.form.ensures c.in-Elem.is in
    elem_opened _ _ _ _ _ _ _ _ _ _ _ (shape_is _ _ _ _ _ c.node.ensures.tree c.form.ensures c.in-Elem.is) c.in_ok-write_class-in-Elem.ensures c.in_ok-push-in-Elem.ensures.items c.in_ok-push-in-Elem-2.ensures.items c.in_ok-push_content-in-Elem.ensures
    (let h = c.requires.here in omega (arith, b, h)) c.requires.belong

pub returns-in_ok-push-in-Seq : goal.returns-in_ok-push-in-Seq
returns-in_ok-push-in-Seq c =
    let m = merged_are _ _ _ _ c.node.ensures.merged c.form.ensures c.in-Seq.is in
    seq_opened _ (level_of c.args.level) _ c.args.id.at _ c.as_slice.result _ _ _ _ _ c.as_slice.ensures.value (shape_is _ _ _ _ _ c.node.ensures.tree c.form.ensures c.in-Seq.is) m.0
    c.requires.here (parts_are _ _ _ _ c.node.ensures.parts c.form.ensures c.in-Seq.is)
    (c.in_ok-open-in-Seq.ensures.out ∙ ap (λ b. c.args.out.now.items ++ cond b (40 ∷ []) []) c.sequence_wants.ensures)
    (c.in_ok-open-in-Seq.ensures.stack ∙ ap (λ b. c.args.stack.now.items ++ cond b (waits.Mark 41 ∷ []) []) c.sequence_wants.ensures)
    c.in_ok-push-in-Seq.ensures.items c.requires.belong

pub returns-in_ok-push-in-Alt : goal.returns-in_ok-push-in-Alt
returns-in_ok-push-in-Alt c =
    let m = merged_are _ _ _ _ c.node.ensures.merged c.form.ensures c.in-Alt.is in
    alt_opened _ (level_of c.args.level) _ c.args.id.at _ c.as_slice-in-Alt.result _ _ _ _ _ c.as_slice-in-Alt.ensures.value (shape_is _ _ _ _ _ c.node.ensures.tree c.form.ensures c.in-Alt.is) m.0
    c.requires.here (parts_are _ _ _ _ c.node.ensures.parts c.form.ensures c.in-Alt.is)
    (c.in_ok-open-in-Alt.ensures.out ∙ ap (λ b. c.args.out.now.items ++ cond b (40 ∷ []) []) c.alternative_wants.ensures)
    (c.in_ok-open-in-Alt.ensures.stack ∙ ap (λ b. c.args.stack.now.items ++ cond b (waits.Mark 41 ∷ []) []) c.alternative_wants.ensures)
    c.in_ok-push-in-Alt.ensures.items c.requires.belong

pub returns-in_ok-push_postfix-in-Star : goal.returns-in_ok-push_postfix-in-Star
returns-in_ok-push_postfix-in-Star c =
    let t = shape_is _ _ _ _ _ c.node.ensures.tree c.form.ensures c.in-Star.is in
    repeated_opened _ _ _ _ c.args.id.at _ _ _ _ _ _ (ap (text_at_level (level_of c.args.level)) t) (ap (λ T. 8 * size T) t) c.in_ok-push_postfix-in-Star.ensures.out c.in_ok-push_postfix-in-Star.ensures.stack c.requires.here
    (parts_are _ _ _ _ c.node.ensures.parts c.form.ensures c.in-Star.is) c.requires.belong

pub returns-in_ok-push_postfix-in-Plus : goal.returns-in_ok-push_postfix-in-Plus
returns-in_ok-push_postfix-in-Plus c =
    let t = shape_is _ _ _ _ _ c.node.ensures.tree c.form.ensures c.in-Plus.is in
    repeated_opened _ _ _ _ c.args.id.at _ _ _ _ _ _ (ap (text_at_level (level_of c.args.level)) t) (ap (λ T. 8 * size T) t) c.in_ok-push_postfix-in-Plus.ensures.out c.in_ok-push_postfix-in-Plus.ensures.stack c.requires.here
    (parts_are _ _ _ _ c.node.ensures.parts c.form.ensures c.in-Plus.is) c.requires.belong

pub returns-in_ok-push_postfix-in-Opt : goal.returns-in_ok-push_postfix-in-Opt
returns-in_ok-push_postfix-in-Opt c =
    let t = shape_is _ _ _ _ _ c.node.ensures.tree c.form.ensures c.in-Opt.is in
    repeated_opened _ _ _ _ c.args.id.at _ _ _ _ _ _ (ap (text_at_level (level_of c.args.level)) t) (ap (λ T. 8 * size T) t) c.in_ok-push_postfix-in-Opt.ensures.out c.in_ok-push_postfix-in-Opt.ensures.stack c.requires.here
    (parts_are _ _ _ _ c.node.ensures.parts c.form.ensures c.in-Opt.is) c.requires.belong
