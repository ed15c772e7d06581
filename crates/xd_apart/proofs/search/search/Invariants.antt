use Rattle.xd_apart.specs.Search.{Searches}
use Rattle.xd_apart.proofs.search.search.Given as goal

abbrev pub invariant-loop : goal.invariant-loop
invariant-loop l = Searches l.auto' l.left l.right l.root l.approximation l.store l.known
