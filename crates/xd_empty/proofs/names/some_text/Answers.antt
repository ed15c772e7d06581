use Rattle.std.proofs.Common.{◌≡◌, ◌∙◌, true, sym}
use Rattle.std.proofs.lemmas.Result.{IfOk-weaker}
use Rattle.xd_doc.specs.Classes.{class_has}
use Rattle.xd_doc.proofs.ClassLemmas.{some_name, first_named}
use Rattle.xd_empty.proofs.names.some_text.Goals as goal

pub returns-else-takes_others : goal.returns-else-takes_others
returns-else-takes_others c =
    let plain = sym c.takes_others.ensures ∙ c.if-takes_others.false in
    let filled = some_name c.args.words.now c.texts-texts.ensures.valid.filled plain in
    let has = first_named c.args.words.now c.index-texts-0.result plain filled (rw c.texts-texts.ensures.names at c.index-texts-0.is) in
    IfOk-weaker c.share.result (λ text. text ≡ c.index-texts-0.result) (λ text. class_has c.args.words.now text ≡ true) (λ text e. rw e has) c.share.ensures
