-- Faults and warnings as the program keeps them, with the document in a store.
use Rattle.std.specs.Prelude.{◌≡◌, List, Some}
use Rattle.xd_doc.specs.Document.{Document}
use Rattle.xd_doc.specs.Stored.{document_at}
use Rattle.xd_doc.specs.StoredSeq.{BelongsTo}
use Rattle.xd_doc.specs.declared.store.Seq.{Seq}
use Rattle.xd_syntax.specs.CheckFaults.{LineKind, not_exhaustive, wrong_argument, wrong_result, dead_clause, Line}
use Rattle.xd_syntax.specs.declared.fault.Fault.{Fault}
use Rattle.xd_syntax.specs.declared.fault.Warning.{Warning}
use Rattle.xd_syntax.specs.declared.fault.FaultKind.{FaultKind}
use Rattle.xd_syntax.specs.declared.fault.FaultKind.TheVariants.{NotExhaustive, Argument, Result}

abbrev pub kind_with : LineKind → Seq → FaultKind → Type 0
kind_with not_exhaustive s k = k ≡ NotExhaustive s
kind_with wrong_argument s k = k ≡ Argument s
kind_with wrong_result s k = k ≡ Result s
kind_with dead_clause s k = ⊥

pub record IsFaultOf (store : List Document) (l : Line) (f : Fault) : Type 0 where
  pub sequence : Seq
  pub belongs : BelongsTo store sequence
  pub placed : f.place ≡ Some l.place
  pub kind : kind_with l.kind sequence f.kind
  pub document : l.document ≡ Some (document_at store sequence)

abbrev pub IsWarningOf : Line → Warning → Type 0
IsWarningOf l w = w.place ≡ l.place
