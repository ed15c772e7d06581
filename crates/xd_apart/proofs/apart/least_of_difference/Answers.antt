use Rattle.std.proofs.Common.{subst, sym}
use Rattle.xd_doc.specs.Document.{Document}
use Rattle.xd_doc.specs.Stored.{document_at}
use Rattle.xd_doc.specs.LeastUpTo.{IsLeastUpTo}
use Rattle.xd_least.specs.Least.{size_limit}
use Rattle.xd_apart.specs.Apart.{IsApart}
use Rattle.xd_apart.proofs.ApartLemmas.{least_difference}
use Rattle.xd_apart.proofs.apart.least_of_difference.Goals as goal

pub copy_out-requires : goal.copy_out-requires
copy_out-requires c = rw c.in-Some.is at c.in_ok-document.ensures.belongs

pub returns-clause-least : goal.returns-clause-least
returns-clause-least c =
    let a = c.args.auto.now in
    let b = c.in_ok-difference.difference in
    let start = c.in_ok-difference.start in
    let d : Document = document_at c.least_inhabitant.new.store c.in-Some.document in
    subst (IsLeastUpTo size_limit (IsApart a c.args.left c.args.right)) (sym c.in_ok-least.ensures.ok)
    (least_difference a b c.args.left c.args.right start c.in_ok-difference.ensures.exact size_limit d (rw c.in-Some.is at c.in_ok-document.ensures.least))
