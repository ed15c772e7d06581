use Rattle.std.proofs.Common.{◌≡◌, ◌≤◌, ◌-◌, false, take, length}
use Rattle.std.specs.List.{list_any}
use Rattle.xd_doc.specs.DocumentCode.{rest_of, content_of}
use Rattle.xd_doc.specs.Stored.{document_at}
use Rattle.xd_auto.specs.Automaton.{moves_at, takes_element}
use Rattle.xd_auto.proofs.membership.try_labels.Given as goal

abbrev pub invariant-loop-number : goal.invariant-loop-number
invariant-loop-number l = record {
  fails : list_any (takes_element l.auto' l.label (content_of (document_at l.store l.seq)) (rest_of (document_at l.store l.seq))) (take l.from (moves_at l.auto' l.state).labels) ≡ false;
  within : l.from ≤ length (moves_at l.auto' l.state).labels;
  after : l.tried ≤ l.from;
}

abbrev pub decreases-loop-number : goal.decreases-loop-number
decreases-loop-number l = length (moves_at l.auto' l.state).labels - l.from
