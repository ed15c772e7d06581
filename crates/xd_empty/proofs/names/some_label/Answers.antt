use Rattle.std.proofs.Common.{◌≡◌, ◌∙◌, true, sym}
use Rattle.std.proofs.lemmas.Result.{IfOk-weaker}
use Rattle.xd_doc.specs.Classes.{class_has}
use Rattle.xd_doc.proofs.ClassLemmas.{some_name, first_named}
use Rattle.xd_empty.proofs.names.some_label.Goals as goal

pub returns-else-takes_others : goal.returns-else-takes_others
returns-else-takes_others c =
    let plain = sym c.takes_others.ensures ∙ c.if-takes_others.false in
    let filled = some_name c.args.class.now c.names-names.ensures.valid.filled plain in
    let has = first_named c.args.class.now c.index-names-0.result plain filled (rw c.names-names.ensures.names at c.index-names-0.is) in
    IfOk-weaker c.share.result (λ label. label ≡ c.index-names-0.result) (λ label. class_has c.args.class.now label ≡ true) (λ label e. rw e has) c.share.ensures
