use Rattle.xd_doc.proofs.Options.{some_holds}
use Rattle.xd_check_steps.specs.declared.lines.Finding.TheVariants.{NotExhaustive}
use Rattle.xd_doc.specs.declared.store.Seq.{Seq}
use Rattle.xd_doc.specs.Stored.{document_at}
use Rattle.xd_doc.specs.StoredSeq.{BelongsTo}
use Rattle.xd_doc.specs.Document.{Document}
use Rattle.std.proofs.Common.{Ok, ap, refl, List}
use Rattle.xd_doc.specs.LeastUpTo.{IsLeastUpTo}
use Rattle.xd_least.specs.Least.{size_limit}
use Rattle.xd_syntax.specs.CheckFaults.{not_exhaustive}
use Rattle.xd_clauses.specs.Clauses.{Accepted}
use Rattle.xd_check_steps.proofs.GrowsLemmas.{grows_none}
use Rattle.xd_check_steps.proofs.IsKnownLemmas.{known_learnt}
use Rattle.xd_check_steps.proofs.LineLists.{adds_nowhere, adds_where}
use Rattle.xd_check_steps.proofs.clauses.see_uncovered.Goals as goal

pub returns-in_ok-push-clause-lines : goal.returns-in_ok-push-clause-lines
returns-in_ok-push-clause-lines c =
    let ds : List Document = c.accepted_document.new.store in
    let seq : Seq = c.in-Some.document in
    let f = c.in_ok-found.ensures in
    let there : BelongsTo ds seq = some_holds (BelongsTo ds) c.in_ok-found.found seq c.in-Some.is f.belongs in
    let taken = some_holds (λ q. IsLeastUpTo size_limit (Accepted c.args.auto.now c.args.arriving) (document_at ds q)) c.in_ok-found.found seq c.in-Some.is f.least in
    adds_where ds c.args.place (Accepted c.args.auto.now c.args.arriving) c.args.findings.now.lines.items c.push.new.self.items (NotExhaustive seq) seq c.in_ok-push.ensures.items there refl there taken

pub returns-in_ok-push-clause-known : goal.returns-in_ok-push-clause-known
returns-in_ok-push-clause-known c =
    let e = c.in_ok-found.ensures in
    known_learnt c.args.auto.now c.args.auto.now c.args.store.now c.accepted_document.new.store c.args.findings.now.known c.accepted_document.new.known (grows_none c.args.auto.now) e.keeps c.requires.known e.known

pub returns-in_default-clause-lines : goal.returns-in_default-clause-lines
returns-in_default-clause-lines c =
    adds_nowhere c.accepted_document.new.store c.args.place not_exhaustive (Accepted c.args.auto.now c.args.arriving)
    (λ d h. c.in_ok-found.ensures.none (ap (λ o. Ok o) c.in_default.is) d h) c.args.findings.now.lines.items c.args.findings.now.lines.items refl

pub returns-in_default-clause-known : goal.returns-in_default-clause-known
returns-in_default-clause-known c =
    let e = c.in_ok-found.ensures in
    known_learnt c.args.auto.now c.args.auto.now c.args.store.now c.accepted_document.new.store c.args.findings.now.known c.accepted_document.new.known (grows_none c.args.auto.now) e.keeps c.requires.known e.known

pub accepted_document-requires : goal.accepted_document-requires
accepted_document-requires c =
    record {
      state = c.requires.arriving;
      known = c.requires.known.inhabitants;
    }
