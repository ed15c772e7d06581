use Rattle.std.proofs.Common.{◌+◌, ◌*◌}
use Rattle.xd_doc.specs.Document.{size}
use Rattle.xd_plain.specs.PlainDocuments.{document_of}
use Rattle.xd_plain.proofs.fits.+splits.Given as goal

abbrev pub decreases-all_splits : goal.decreases-all_splits
decreases-all_splits l = 2 * size (document_of l.document.now) + 1

abbrev pub decreases-push_splits : goal.decreases-push_splits
decreases-push_splits l = 2 * size (document_of l.document.now)
