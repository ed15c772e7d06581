use Rattle.std.proofs.Common.{◌<◌, arith, inl, length, subst}
use Rattle.xd_doc.specs.Document.{Document}
use Rattle.xd_doc.specs.Stored.{document_at}
use Rattle.xd_least.specs.Least.{Accepts, size_limit}
use Rattle.xd_command_documents.proofs.LeastDocuments.{least_canonical}
use Rattle.xd_command_documents.proofs.command.least.least_of.Goals as goal

pub returns-in-Some : goal.returns-in-Some
returns-in-Some c =
    let o = c.in_ok-output-in-Some.output in
    let d : Document = document_at c.least_inhabitant.new.store c.in-Some.document in
    let least = rw c.in-Some.is at c.in_ok-document.ensures.least in
    let belongs = rw c.in-Some.is at c.in_ok-document.ensures.belongs in
    let fits : length o.text < size_limit = subst (λ w. length w < size_limit) c.text-text.ensures (omega (arith, c.text-text.type_inv)) in
    inl (d, belongs.proper, least_canonical (Accepts c.args.auto.now c.args.state) d o least c.in_ok-output-in-Some.ensures fits, c.in_ok-output-in-Some.ensures)
