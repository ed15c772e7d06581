use Rattle.std.proofs.Common.{◌≡◌, length, sym, subst, ◌∙◌, ap}
use Rattle.xd_doc.specs.Classes.{class_has}
use Rattle.xd_syntax.specs.Tree.{Words}
use Rattle.xd_same_types.specs.Same.{IsTextsType}
use Rattle.xd_same_types.proofs.Ids.{ok_map}
use Rattle.xd_same_types.proofs.TextLaws.{all_words, zero_when, texts_all, texts_words}
use Rattle.xd_same_types.proofs.texts.others_type.Goals as goal

pub returns-then-is_empty-clause-texts : goal.returns-then-is_empty-clause-texts
returns-then-is_empty-clause-texts c =
    let w = c.args.words.now in
    let l : length c.texts.result.now ≡ 0 = zero_when (length c.texts.result.now) _ c.is_empty.ensures c.if-is_empty.true in
    let m : length w.names ≡ 0 = sym (ap length c.texts.ensures.names) ∙ l in
    ok_map c.node.result _ _ (λ id e. subst (IsTextsType (class_has w)) (sym e) (texts_all (class_has w) (all_words w c.requires m))) c.node.ensures.tree

pub returns-clause-texts : goal.returns-clause-texts
returns-clause-texts c =
    let w = c.args.words.now in
    ok_map c.node-2.result _ _ (λ id e. subst (IsTextsType (class_has w)) (sym (e ∙ ap Words c.in_ok-share.ensures.same)) (texts_words w)) c.node-2.ensures.tree
