use Rattle.std.proofs.Common.{◌++◌, ◌∷◌, [], refl, sym, ap, ◌∙◌, subst}
use Rattle.xd_doc.specs.Classes.{class_has, is_named}
use Rattle.xd_syntax.specs.Tree.{Words}
use Rattle.xd_same_types.specs.Same.{IsTextsType}
use Rattle.xd_same_types.proofs.Ids.{ok_map}
use Rattle.xd_same_types.proofs.TextLaws.{class_named, named_same, one_word, texts_as, texts_words}
use Rattle.xd_same_types.proofs.texts.one_text.Goals as goal

pub node-requires : goal.node-requires
node-requires c =
    let single = c.in_ok-push.ensures.items ∙ ap (λ xs. xs ++ c.in_ok-share.field-0 ∷ []) c.new-texts.ensures.items ∙ ap (λ t. t ∷ []) c.in_ok-share.ensures in
    (one_word c.in_ok-words.words c.args.text.now c.in_ok-words.ensures.valid (named_same c.in_ok-words.words.names c.push.new.self.items c.args.text.now single c.in_ok-words.ensures.texts) c.in_ok-words.ensures.except, refl)

pub returns-clause-texts : goal.returns-clause-texts
returns-clause-texts c =
    let w = c.in_ok-words.words in
    let h = is_named (c.args.text.now ∷ []) in
    let single = c.in_ok-push.ensures.items ∙ ap (λ xs. xs ++ c.in_ok-share.field-0 ∷ []) c.new-texts.ensures.items ∙ ap (λ t. t ∷ []) c.in_ok-share.ensures in
    let named = named_same w.names c.push.new.self.items c.args.text.now single c.in_ok-words.ensures.texts in
    let it = texts_as (class_has w) h (Words w) (λ s. class_named w c.in_ok-words.ensures.except s ∙ named s) (texts_words w) in
    ok_map c.node.result _ _ (λ id e. subst (IsTextsType h) (sym e) it) c.node.ensures.tree
