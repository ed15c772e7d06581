use Rattle.std.proofs.Common.{◌≡◌}
use Rattle.xd_doc.specs.Document.{empty}
use Rattle.xd_doc.specs.Stored.{document_at}
use Rattle.xd_doc.specs.StoredSeq.{BelongsTo}
use Rattle.xd_doc.specs.StoreNodes.{Keeps}
use Rattle.xd_command_sample.specs.Persons.{persons_to}
use Rattle.xd_command_programs.proofs.command.sample.sample_document.Given as goal

abbrev pub invariant-loop-left : goal.invariant-loop-left
invariant-loop-left l = record {
  made : persons_to l.left (document_at l.store l.made) ≡ persons_to l.persons empty;
  belongs : BelongsTo l.store l.made;
  keeps : Keeps l.initial.store l.store;
}

abbrev pub decreases-loop-left : goal.decreases-loop-left
decreases-loop-left l = l.left
