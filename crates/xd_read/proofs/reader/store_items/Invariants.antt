use Rattle.std.proofs.Common.{length}
use Rattle.xd_read.proofs.StoreItems.{StoredSoFar}
use Rattle.xd_read.proofs.reader.store_items.Given as goal

abbrev pub invariant-loop-finished : goal.invariant-loop-finished
invariant-loop-finished l = StoredSoFar l.fn.store l.store l.fn.finished.items l.finished.items l.start l.seq

abbrev pub decreases-loop-finished : goal.decreases-loop-finished
decreases-loop-finished l = length l.finished.items
