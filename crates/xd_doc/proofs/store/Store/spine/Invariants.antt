use Rattle.xd_doc.specs.Document.{size}
use Rattle.xd_doc.specs.Stored.{document_at}
use Rattle.xd_doc.proofs.StoredLemmas.{SpineSoFar}
use Rattle.xd_doc.proofs.store.Store.spine.Given as goal

abbrev pub invariant-loop-rest : goal.invariant-loop-rest
invariant-loop-rest l = SpineSoFar l.self l.fn.seq l.spine.items l.rest

abbrev pub decreases-loop-rest : goal.decreases-loop-rest
decreases-loop-rest l = size (document_at l.self l.rest)
