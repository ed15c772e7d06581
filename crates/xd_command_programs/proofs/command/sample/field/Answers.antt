use Rattle.std.proofs.Common.{◌≡◌, ◌++◌, refl, sym, ap, subst, ◌∙◌}
use Rattle.std.proofs.lemmas.Result.{IfOk-from_err, IfOk-weaker}
use Rattle.std.specs.Fmt.{decimal}
use Rattle.xd_doc.specs.Document.{empty, text, element}
use Rattle.xd_doc.specs.Stored.{document_at}
use Rattle.xd_doc.specs.StoredSeq.{BelongsTo}
use Rattle.xd_doc.proofs.StoredLemmas.{Keeps-same, Keeps-trans}
use Rattle.xd_command_programs.proofs.command.sample.field.Goals as goal

pub text_node-requires : goal.text_node-requires
text_node-requires c = subst (BelongsTo c.args.store.now) (sym c.empty.ensures) (record { place = tt; proper = refl; filled = refl })

pub elem_node-requires-clause-next : goal.elem_node-requires-clause-next
elem_node-requires-clause-next c = c.text_node.ensures.keeps.belongs c.args.next c.requires.next

pub elem_node-requires-clause-content : goal.elem_node-requires-clause-content
elem_node-requires-clause-content c = c.in_ok-content.ensures.belongs

pub returns-in_err-characters : goal.returns-in_err-characters
returns-in_err-characters c = record {
  made = IfOk-from_err c.from_residual.result (λ q. document_at c.args.store.now q ≡ element c.args.label.now (text (c.args.front.now ++ decimal c.args.number) empty) (document_at c.args.store.now c.args.next)) c.from_residual.ensures.0;
  belongs = IfOk-from_err c.from_residual.result (BelongsTo c.args.store.now) c.from_residual.ensures.0;
  keeps = Keeps-same c.args.store.now;
}

pub returns-in_err-text : goal.returns-in_err-text
returns-in_err-text c = record {
  made = IfOk-from_err c.from_residual-in_err-text.result (λ q. document_at c.args.store.now q ≡ element c.args.label.now (text (c.args.front.now ++ decimal c.args.number) empty) (document_at c.args.store.now c.args.next)) c.from_residual-in_err-text.ensures.0;
  belongs = IfOk-from_err c.from_residual-in_err-text.result (BelongsTo c.args.store.now) c.from_residual-in_err-text.ensures.0;
  keeps = Keeps-same c.args.store.now;
}

pub returns-in_err-content : goal.returns-in_err-content
returns-in_err-content c = record {
  made = IfOk-from_err c.from_residual-in_err-content.result (λ q. document_at c.text_node.new.self q ≡ element c.args.label.now (text (c.args.front.now ++ decimal c.args.number) empty) (document_at c.args.store.now c.args.next)) c.from_residual-in_err-content.ensures.0;
  belongs = IfOk-from_err c.from_residual-in_err-content.result (BelongsTo c.text_node.new.self) c.from_residual-in_err-content.ensures.0;
  keeps = c.text_node.ensures.keeps;
}

pub returns-in_err-new : goal.returns-in_err-new
returns-in_err-new c = record {
  made = IfOk-from_err c.from_residual-in_err-new.result (λ q. document_at c.text_node.new.self q ≡ element c.args.label.now (text (c.args.front.now ++ decimal c.args.number) empty) (document_at c.args.store.now c.args.next)) c.from_residual-in_err-new.ensures.0;
  belongs = IfOk-from_err c.from_residual-in_err-new.result (BelongsTo c.text_node.new.self) c.from_residual-in_err-new.ensures.0;
  keeps = c.text_node.ensures.keeps;
}

pub returns : goal.returns
returns c =
    let O = c.args.store.now in
    let M = c.text_node.new.self in
    let N = c.elem_node.new.self in
    let l = c.args.label.now in
    let s = c.args.front.now ++ decimal c.args.number in
    let next = document_at O c.args.next in
    let characters : c.in_ok-text.text ≡ s = c.in_ok-text.ensures ∙ (c.deref.ensures ∙ c.in_ok-characters.ensures.ok) in
    let content : document_at M c.in_ok-content.content ≡ text s empty = c.in_ok-content.ensures.ok ∙ (ap (λ t. text t (document_at O c.empty.result)) characters ∙ ap (λ q. text s (document_at O q)) c.empty.ensures) in
    let same : element c.in_ok-new.field-0 (document_at M c.in_ok-content.content) (document_at M c.args.next) ≡ element l (text s empty) next =
    ap (λ k. element k (document_at M c.in_ok-content.content) (document_at M c.args.next)) c.in_ok-new.ensures
    ∙ (ap (λ d. element l d (document_at M c.args.next)) content ∙ ap (element l (text s empty)) (c.text_node.ensures.keeps.same c.args.next c.requires.next)) in
    record {
      made = IfOk-weaker c.elem_node.result (λ q. document_at N q ≡ element c.in_ok-new.field-0 (document_at M c.in_ok-content.content) (document_at M c.args.next)) (λ q. document_at N q ≡ element l (text s empty) next) (λ q e. e ∙ same) c.elem_node.ensures.ok;
      belongs = c.elem_node.ensures.belongs;
      keeps = Keeps-trans O M N c.text_node.ensures.keeps c.elem_node.ensures.keeps;
    }
