use Rattle.std.proofs.Common.{◌≡◌, [], ◌∷◌, ap, ◌∙◌}
use Rattle.xd_syntax.specs.Words.{main_word}
use Rattle.xd_plain.specs.PlainDocuments.{document_of}
use Rattle.xd_plain.specs.PlainPrograms.{program_of}
use Rattle.xd_plain.specs.PlainMeaning.{IsAnswer, call_with, documents_of, matches_of, meaning_with}
use Rattle.xd_plain.proofs.PlainMeaningLemmas.{settled, same_answer, if_done, if_ended}
use Rattle.xd_plain.proofs.evaluate.meaning.Goals as goal

pub returns : goal.returns
returns c =
    let P = program_of c.args.program.now in
    let W = matches_of c.args.program.now c.args.unfoldings in
    let ds : documents_of c.deref.result.now ≡ document_of c.args.document ∷ [] = ap documents_of (c.deref.ensures.value ∙ c.in_ok-documents.ensures ∙ ap (λ xs. c.args.document ∷ xs) c.new-2.ensures.items) in
    let f : c.in_ok-main.main ≡ main_word = c.in_ok-main.ensures in
    let told : IsAnswer c.call_within.result (meaning_with W P c.args.calls (document_of c.args.document))
    = same_answer c.call_within.result c.call_within.ensures (ap (λ a. call_with W P c.args.calls a (documents_of c.deref.result.now)) f ∙ ap (call_with W P c.args.calls main_word) ds) in
    record {
      done = if_done c.call_within.result _ told;
      ended = if_ended c.call_within.result _ told;
      enough = λ s h. same_answer c.call_within.result told (settled P s c.args.unfoldings (λ m. meaning_with m P c.args.calls (document_of c.args.document)) h);
    }
